use Rattle.ss_machine_good.proofs.Steps.{new_array_good}
use Rattle.ss_machine_good.proofs.laws.arrays_keep_good.Goals as goal

pub returns : goal.returns
returns c = new_array_good
