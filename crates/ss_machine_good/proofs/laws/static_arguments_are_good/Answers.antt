use Rattle.ss_machine_good.proofs.Calls.{static_arguments}
use Rattle.ss_machine_good.proofs.laws.static_arguments_are_good.Goals as goal

pub returns : goal.returns
returns c = static_arguments
