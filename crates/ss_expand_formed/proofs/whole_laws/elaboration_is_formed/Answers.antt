use Rattle.ss_expand_formed.proofs.Whole.{elaboration_is_formed as law}
use Rattle.ss_expand_formed.proofs.whole_laws.elaboration_is_formed.Goals as goal

pub returns : goal.returns
returns c = law
