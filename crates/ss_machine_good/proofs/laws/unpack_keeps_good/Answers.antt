use Rattle.ss_machine_good.proofs.Steps.{unpack_good}
use Rattle.ss_machine_good.proofs.laws.unpack_keeps_good.Goals as goal

pub returns : goal.returns
returns c = unpack_good
