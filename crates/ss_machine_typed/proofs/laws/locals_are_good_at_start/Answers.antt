use Rattle.ss_machine_typed.proofs.First.{main_locals}
use Rattle.ss_machine_typed.proofs.laws.locals_are_good_at_start.Goals as goal

pub returns : goal.returns
returns c = main_locals
