use Rattle.ss_machine_typed.proofs.First.{entered_locals}
use Rattle.ss_machine_typed.proofs.laws.locals_are_good_at_entry.Goals as goal

pub returns : goal.returns
returns c = entered_locals
