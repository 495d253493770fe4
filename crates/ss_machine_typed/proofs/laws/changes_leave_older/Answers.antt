use Rattle.ss_machine_typed.proofs.Changes.{older_change}
use Rattle.ss_machine_typed.proofs.laws.changes_leave_older.Goals as goal

pub returns : goal.returns
returns c = older_change
