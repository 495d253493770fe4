use Rattle.ss_expand_formed.proofs.ClassConstructors.{have_constructors}
use Rattle.ss_expand_formed.proofs.laws.have_constructors.Goals as goal

pub returns : goal.returns
returns c = have_constructors
