use Rattle.ss_expand_formed.proofs.Declared.{have_declared_types as law}
use Rattle.ss_expand_formed.proofs.members_laws.have_declared_types.Goals as goal

pub returns : goal.returns
returns c = law
