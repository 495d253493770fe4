use Rattle.ss_linear.specs.Contradictions.{HasPairs}
use Rattle.ss_search_candidates.proofs.numbers.equalities.Given as goal

abbrev pub invariant-loop-term : goal.invariant-loop-term
invariant-loop-term l = HasPairs l.bank l.list.items
