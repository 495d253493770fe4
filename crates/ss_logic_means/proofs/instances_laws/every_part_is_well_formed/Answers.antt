use Rattle.ss_logic_means.proofs.Putting.{part_formed}
use Rattle.ss_logic_means.proofs.instances_laws.every_part_is_well_formed.Goals as goal

pub returns : goal.returns
returns c = part_formed
