use Rattle.ss_expand_formed.proofs.TypedLaw.{expose_by_class as law}
use Rattle.ss_expand_formed.proofs.typed_laws.expose_by_class.Goals as goal

pub returns : goal.returns
returns c = law
