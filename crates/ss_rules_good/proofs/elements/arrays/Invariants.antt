use Rattle.std.proofs.Common.{◌≡◌, ◌+◌, ◌*◌, ◌++◌, drop}
use Rattle.ss_core.specs.View as view
use Rattle.ss_logic.specs.Good.{arrays_from, arrays_of_references}
use Rattle.ss_rules_good.proofs.elements.arrays.Given as goal

abbrev pub invariant-loop-k : goal.invariant-loop-k
invariant-loop-k l = l.found.items ++ arrays_from (5 + 2 * l.k) (drop l.k (view.classes l.classes)) ≡ arrays_of_references (view.classes l.classes)
