use Rattle.ss_logic_means.proofs.Putting.{forall_formed}
use Rattle.ss_logic_means.proofs.instances_laws.every_instance_of_a_forall_is_well_formed.Goals as goal

pub returns : goal.returns
returns c = forall_formed
