use Rattle.ss_search_clashes.proofs.Ending.{AreEndsOf}
use Rattle.ss_search_clashes.proofs.ends.ends.Given as goal

abbrev pub invariant-loop-number : goal.invariant-loop-number
invariant-loop-number l = AreEndsOf l.terms l.joins l.number l.ends.items
