use Rattle.ss_vcgen_safe.proofs.FormedPrograms.{all_formed}
use Rattle.ss_vcgen_safe.proofs.formed_laws.obligations_are_well_formed.Goals as goal

pub returns : goal.returns
returns c = all_formed
