use Rattle.ss_machine_good.proofs.Calls.{instance_arguments}
use Rattle.ss_machine_good.proofs.laws.instance_arguments_are_good.Goals as goal

pub returns : goal.returns
returns c = instance_arguments
