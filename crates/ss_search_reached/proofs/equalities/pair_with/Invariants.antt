use Rattle.std.proofs.Common.{◌∷◌, [], take}
use Rattle.ss_search_reached.specs.Groups.{ArePaired}
use Rattle.ss_search_reached.proofs.equalities.pair_with.Given as goal

abbrev pub invariant-loop-t : goal.invariant-loop-t
invariant-loop-t l = ArePaired (l.s ∷ []) (take l.t-index l.ts) l.initial.pairs.items l.pairs.items
