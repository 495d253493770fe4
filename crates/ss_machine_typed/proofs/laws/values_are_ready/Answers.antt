use Rattle.ss_machine_typed.proofs.Ready.{value_ready}
use Rattle.ss_machine_typed.proofs.laws.values_are_ready.Goals as goal

pub returns : goal.returns
returns c = value_ready
