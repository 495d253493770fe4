use Rattle.ss_terms.specs.Forms.{IsGrown}
use Rattle.ss_search_made.proofs.kept.make_terms.Given as goal

abbrev pub invariant-loop-term : goal.invariant-loop-term
invariant-loop-term l = IsGrown l.initial.bank l.bank
