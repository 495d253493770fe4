use Rattle.std.proofs.Common.{◌≡◌, ◌+◌, ◌*◌, take, map}
use Rattle.ss_logic.specs.Frames.{lifted}
use Rattle.ss_terms.specs.Forms.{formulas_at, HasFormulas, IsGrown}
use Rattle.ss_terms_puts.proofs.lifts_formulas.+lifting_all.Given as goal

abbrev pub decreases-lift : goal.decreases-lift
decreases-lift l = 2 * l.f.0 + 1

abbrev pub decreases-lift_all : goal.decreases-lift_all
decreases-lift_all l = 2 * l.bound

abbrev pub invariant-lift_all-loop-f : goal.invariant-lift_all-loop-f
invariant-lift_all-loop-f l = record {
  grown : IsGrown l.initial.bank l.bank;
  below : HasFormulas l.bank l.made.items;
  done : formulas_at l.bank l.made.items ≡ map (lifted l.n) (formulas_at l.initial.bank (take l.f-index l.fs));
}
