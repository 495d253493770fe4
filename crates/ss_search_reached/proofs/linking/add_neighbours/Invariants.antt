use Rattle.std.proofs.Common.{◌≡◌, ◌++◌, drop}
use Rattle.ss_search_reached.specs.Groups.{neighbours}
use Rattle.ss_search_reached.proofs.linking.add_neighbours.Given as goal

abbrev pub invariant-loop-i : goal.invariant-loop-i
invariant-loop-i l = l.pairs.items ++ neighbours (drop l.i l.ts) ≡ l.initial.pairs.items ++ neighbours l.ts
