use Rattle.std.proofs.Common.{◌≡◌, map, take}
use Rattle.ss_equality_rules.specs.Equal.{class_number}
use Rattle.ss_search_clashes.proofs.says.classes_at.Given as goal

abbrev pub invariant-loop-t : goal.invariant-loop-t
invariant-loop-t l = l.found.items ≡ map (class_number l.classes) (take l.t-index l.ts)
