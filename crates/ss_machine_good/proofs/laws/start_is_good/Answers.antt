use Rattle.ss_machine_good.proofs.Start.{start_good}
use Rattle.ss_machine_good.proofs.laws.start_is_good.Goals as goal

pub returns : goal.returns
returns c = start_good
