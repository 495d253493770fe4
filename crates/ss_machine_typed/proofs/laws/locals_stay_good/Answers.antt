use Rattle.ss_machine_typed.proofs.Older.{locals-older}
use Rattle.ss_machine_typed.proofs.laws.locals_stay_good.Goals as goal

pub returns : goal.returns
returns c = locals-older
