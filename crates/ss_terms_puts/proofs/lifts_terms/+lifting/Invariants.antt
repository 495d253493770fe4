use Rattle.std.proofs.Common.{◌≡◌, ◌+◌, ◌*◌, take, map}
use Rattle.ss_logic.specs.Frames.{lifted_term}
use Rattle.ss_terms.specs.Forms.{terms_at, HasTerms, IsGrown}
use Rattle.ss_terms_puts.proofs.lifts_terms.+lifting.Given as goal

abbrev pub decreases-lift_term : goal.decreases-lift_term
decreases-lift_term l = 2 * l.t.0 + 1

abbrev pub decreases-lift_terms : goal.decreases-lift_terms
decreases-lift_terms l = 2 * l.bound

abbrev pub invariant-lift_terms-loop-x : goal.invariant-lift_terms-loop-x
invariant-lift_terms-loop-x l = record {
  grown : IsGrown l.initial.bank l.bank;
  below : HasTerms l.bank l.made.items;
  done : terms_at l.bank l.made.items ≡ map (lifted_term l.n) (terms_at l.initial.bank (take l.x-index l.xs));
}
