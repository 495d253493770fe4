use Rattle.std.proofs.Common.{◌≡◌, ◌+◌, ◌*◌, take, map}
use Rattle.ss_logic.specs.Formulas.{put_term}
use Rattle.ss_terms.specs.Forms.{terms_at, HasTerms, IsGrown}
use Rattle.ss_terms_puts.proofs.terms.+putting.Given as goal

abbrev pub decreases-put_term : goal.decreases-put_term
decreases-put_term l = 2 * l.t.0 + 1

abbrev pub decreases-put_terms : goal.decreases-put_terms
decreases-put_terms l = 2 * l.bound

abbrev pub invariant-put_terms-loop-x : goal.invariant-put_terms-loop-x
invariant-put_terms-loop-x l = record {
  grown : IsGrown l.initial.bank l.bank;
  below : HasTerms l.bank l.made.items;
  done : terms_at l.bank l.made.items ≡ map (put_term (terms_at l.initial.bank l.ts)) (terms_at l.initial.bank (take l.x-index l.xs));
}
