use Rattle.ss_store_rules.specs.Assigned.{assigned_flow}
use Rattle.ss_machine_good.specs.Known.{AreAssigned}
use Rattle.ss_machine_good.proofs.Flows.{goes_along}
use Rattle.ss_machine_good.proofs.Assigned.{assigned_sound}
use Rattle.ss_machine_good.proofs.laws.assigned_goes_along.Goals as goal

pub returns : goal.returns
returns c = λ b k. goes_along assigned_flow k (AreAssigned b) (assigned_sound b k)
