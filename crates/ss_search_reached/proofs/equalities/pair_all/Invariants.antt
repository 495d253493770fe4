use Rattle.std.proofs.Common.{take}
use Rattle.ss_search_reached.specs.Groups.{ArePaired}
use Rattle.ss_search_reached.proofs.equalities.pair_all.Given as goal

abbrev pub invariant-loop-s : goal.invariant-loop-s
invariant-loop-s l = ArePaired (take l.s-index l.ts) l.ts l.initial.pairs.items l.pairs.items
