use Rattle.ss_logic_means.proofs.Goods.{good_instance_formed}
use Rattle.ss_logic_means.proofs.instances_laws.every_good_instance_is_well_formed.Goals as goal

pub returns : goal.returns
returns c = good_instance_formed
