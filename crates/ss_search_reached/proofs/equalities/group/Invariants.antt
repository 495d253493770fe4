use Rattle.std.proofs.Common.{take}
use Rattle.ss_search_reached.specs.Groups.{lists_in, AreGrouped}
use Rattle.ss_search_reached.proofs.equalities.group.Given as goal

abbrev pub invariant-loop-t : goal.invariant-loop-t
invariant-loop-t l = AreGrouped l.classes (take l.t-index l.ts) (lists_in l.groups.items)
