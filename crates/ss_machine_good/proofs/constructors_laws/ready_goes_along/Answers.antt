use Rattle.ss_machine_good.proofs.Flows.{goes_along}
use Rattle.ss_machine_good.specs.Checks.{ready_flow, IsThisReady}
use Rattle.ss_machine_good.proofs.Ready.{ready_sound}
use Rattle.ss_machine_good.proofs.constructors_laws.ready_goes_along.Goals as goal

pub returns : goal.returns
returns c = λ p k constructs. goes_along (ready_flow p) k (IsThisReady constructs) (ready_sound p k constructs)
