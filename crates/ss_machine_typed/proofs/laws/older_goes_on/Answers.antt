use Rattle.ss_machine_typed.proofs.Older.{older_trans}
use Rattle.ss_machine_typed.proofs.laws.older_goes_on.Goals as goal

pub returns : goal.returns
returns c = older_trans
