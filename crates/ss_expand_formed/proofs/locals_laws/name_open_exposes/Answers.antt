use Rattle.ss_expand_formed.proofs.Locals.{name_open_exposes as law}
use Rattle.ss_expand_formed.proofs.locals_laws.name_open_exposes.Goals as goal

pub returns : goal.returns
returns c = law
