use Rattle.std.proofs.Common.{map, drop}
use Rattle.ss_core.specs.View as view
use Rattle.ss_vcgen.proofs.Building.{Built}
use Rattle.ss_vcgen.proofs.programs.watched.Given as goal

abbrev pub invariant-loop-i : goal.invariant-loop-i
invariant-loop-i l = Built (view.core l.core) l.builder l.done.items l.i (map view.body (drop l.i l.core.bodies.items))
