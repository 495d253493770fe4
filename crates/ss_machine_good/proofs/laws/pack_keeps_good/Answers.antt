use Rattle.ss_machine_good.proofs.Steps.{pack_good}
use Rattle.ss_machine_good.proofs.laws.pack_keeps_good.Goals as goal

pub returns : goal.returns
returns c = pack_good
