use Rattle.ss_linear_sums.specs.Table.{AreKept}
use Rattle.ss_search_candidates.proofs.numbers.add_formulas.Given as goal

abbrev pub invariant-loop-f : goal.invariant-loop-f
invariant-loop-f l = AreKept l.bank l.table.kept.items
