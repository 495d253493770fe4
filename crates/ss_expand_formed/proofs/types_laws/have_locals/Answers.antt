use Rattle.ss_expand_formed.proofs.Types.{have_locals as law}
use Rattle.ss_expand_formed.proofs.types_laws.have_locals.Goals as goal

pub returns : goal.returns
returns c = law
