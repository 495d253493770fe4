use Rattle.ss_expand_formed.proofs.Beginnings.{have_opening as law}
use Rattle.ss_expand_formed.proofs.construction_laws.have_opening.Goals as goal

pub returns : goal.returns
returns c = law
