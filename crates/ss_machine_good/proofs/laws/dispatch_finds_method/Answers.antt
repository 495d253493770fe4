use Rattle.ss_machine_good.proofs.Dispatch.{dispatch_finds}
use Rattle.ss_machine_good.proofs.laws.dispatch_finds_method.Goals as goal

pub returns : goal.returns
returns c = dispatch_finds
