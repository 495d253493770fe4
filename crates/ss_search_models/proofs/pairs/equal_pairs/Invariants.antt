use Rattle.std.proofs.Common.{◌≡◌, ◌++◌, drop}
use Rattle.ss_search_models.specs.Wholes.{pairs_in}
use Rattle.ss_search_models.proofs.pairs.equal_pairs.Given as goal

abbrev pub invariant-loop-i : goal.invariant-loop-i
invariant-loop-i l = l.pairs.items ++ pairs_in (drop l.i l.found) ≡ pairs_in l.found
