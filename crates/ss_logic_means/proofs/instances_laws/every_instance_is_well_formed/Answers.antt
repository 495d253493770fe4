use Rattle.ss_logic_means.proofs.Ruling.{instance_formed}
use Rattle.ss_logic_means.proofs.instances_laws.every_instance_is_well_formed.Goals as goal

pub returns : goal.returns
returns c = instance_formed
