use Rattle.ss_logic_means.proofs.Stated.{instance_formed}
use Rattle.ss_logic_means.proofs.instances_laws.every_instance_of_the_invariants_is_well_formed.Goals as goal

pub returns : goal.returns
returns c = λ cs are s ts f is. instance_formed cs are s f ts is
