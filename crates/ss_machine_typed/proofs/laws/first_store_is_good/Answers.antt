use Rattle.ss_machine_typed.proofs.First.{first_good}
use Rattle.ss_machine_typed.proofs.laws.first_store_is_good.Goals as goal

pub returns : goal.returns
returns c = first_good
