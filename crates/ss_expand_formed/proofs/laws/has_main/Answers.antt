use Rattle.ss_expand_formed.proofs.MainBody.{has_main}
use Rattle.ss_expand_formed.proofs.laws.has_main.Goals as goal

pub returns : goal.returns
returns c = has_main
