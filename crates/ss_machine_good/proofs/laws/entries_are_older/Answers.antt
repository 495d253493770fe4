use Rattle.ss_machine_good.proofs.Entries.{run_older}
use Rattle.ss_machine_good.proofs.laws.entries_are_older.Goals as goal

pub returns : goal.returns
returns c = run_older
