use Rattle.ss_machine_typed.proofs.Older.{older_self}
use Rattle.ss_machine_typed.proofs.laws.older_begins.Goals as goal

pub returns : goal.returns
returns c = older_self
