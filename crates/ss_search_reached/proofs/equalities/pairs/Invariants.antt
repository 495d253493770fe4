use Rattle.ss_search_reached.specs.Groups.{lists_in, ArePairsBelow}
use Rattle.ss_search_reached.proofs.equalities.pairs.Given as goal

abbrev pub invariant-loop-group : goal.invariant-loop-group
invariant-loop-group l = ArePairsBelow (lists_in l.group-items) l.group-index l.pairs.items
