use Rattle.ss_terms.specs.Forms.{HasFormulas}
use Rattle.ss_search_candidates.proofs.numbers.comparisons.Given as goal

abbrev pub invariant-loop-pair : goal.invariant-loop-pair
invariant-loop-pair l = HasFormulas l.bank l.list.items
