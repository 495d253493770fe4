use Rattle.ss_expand_formed.proofs.Locals.{have_numbers as law}
use Rattle.ss_expand_formed.proofs.locals_laws.have_numbers.Goals as goal

pub returns : goal.returns
returns c = law
