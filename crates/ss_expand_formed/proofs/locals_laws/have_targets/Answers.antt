use Rattle.ss_expand_formed.proofs.Locals.{have_targets as law}
use Rattle.ss_expand_formed.proofs.locals_laws.have_targets.Goals as goal

pub returns : goal.returns
returns c = law
