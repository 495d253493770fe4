use Rattle.ss_terms.specs.Forms.{IsGrown}
use Rattle.ss_search_made.proofs.kept.make_pairs.Given as goal

abbrev pub invariant-loop-pair : goal.invariant-loop-pair
invariant-loop-pair l = IsGrown l.initial.bank l.bank
