use Rattle.ss_terms.specs.Forms.{IsGrown}
use Rattle.ss_search_made.proofs.made.conditions_made.Given as goal

abbrev pub invariant-loop-place : goal.invariant-loop-place
invariant-loop-place l = IsGrown l.initial.bank l.bank
