use Rattle.ss_expand_formed.proofs.TypedLaw.{have_typed_code as law}
use Rattle.ss_expand_formed.proofs.typed_laws.have_typed_code.Goals as goal

pub returns : goal.returns
returns c = law
