use Rattle.ss_expand_formed.proofs.Heads.{have_flags}
use Rattle.ss_expand_formed.proofs.laws.have_flags.Goals as goal

pub returns : goal.returns
returns c = have_flags
