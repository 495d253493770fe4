use Rattle.ss_machine_good.proofs.Steps.{write_good}
use Rattle.ss_machine_good.proofs.laws.writes_keep_good.Goals as goal

pub returns : goal.returns
returns c = write_good
