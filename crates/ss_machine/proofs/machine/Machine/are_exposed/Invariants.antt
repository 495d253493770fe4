use Rattle.std.proofs.Common.{◌≡◌, map, length}
use Rattle.ss_core.specs.View.{classes, exposed_tree}
use Rattle.ss_machine_rules.specs.Steps.{are_exposed}
use Rattle.ss_machine.specs.Frames.{running}
use Rattle.ss_machine.proofs.machine.Machine.are_exposed.Given as goal

abbrev pub invariant-loop-rest : goal.invariant-loop-rest
invariant-loop-rest l = are_exposed (classes l.core.classes) l.self.stores.now (running l.self) (map exposed_tree l.rest) ≡ are_exposed (classes l.core.classes) l.self.stores.now (running l.self) (map exposed_tree l.exposes)

abbrev pub decreases-loop-rest : goal.decreases-loop-rest
decreases-loop-rest l = length l.rest
