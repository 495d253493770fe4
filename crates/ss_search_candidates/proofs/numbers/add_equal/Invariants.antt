use Rattle.ss_linear_sums.specs.Table.{AreKept}
use Rattle.ss_search_candidates.proofs.numbers.add_equal.Given as goal

abbrev pub invariant-loop-pair : goal.invariant-loop-pair
invariant-loop-pair l = AreKept l.bank l.table.kept.items
