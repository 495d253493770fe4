use Rattle.std.proofs.Common.{map, drop}
use Rattle.ss_core.specs.View.{expr}
use Rattle.ss_machine_rules.specs.Steps.{values_of}
use Rattle.ss_machine.specs.Moves.{here}
use Rattle.ss_machine.proofs.Pushes.{GoesOn}
use Rattle.ss_machine.proofs.machine.Machine.push_all.Given as goal

abbrev pub invariant-loop-e : goal.invariant-loop-e
invariant-loop-e l = GoesOn l.fn.all.items l.all.items (values_of (map expr (drop l.e-index l.es)) (here l.core l.self)) (values_of (map expr l.es) (here l.core l.self))
