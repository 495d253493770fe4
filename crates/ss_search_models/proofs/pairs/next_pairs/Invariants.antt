use Rattle.std.proofs.Common.{◌≡◌, ◌++◌, drop}
use Rattle.ss_search_models.specs.Wholes.{nexts_in}
use Rattle.ss_search_models.proofs.pairs.next_pairs.Given as goal

abbrev pub invariant-loop-i : goal.invariant-loop-i
invariant-loop-i l = l.pairs.items ++ nexts_in (drop l.i l.found) ≡ nexts_in l.found
