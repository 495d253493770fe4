use Rattle.std.proofs.Common.{◌≡◌, ◌+◌, ◌*◌, take, map}
use Rattle.ss_logic.specs.Formulas.{put}
use Rattle.ss_terms.specs.Forms.{terms_at, formulas_at, HasFormulas, IsGrown}
use Rattle.ss_terms_puts.proofs.formulas.+putting_all.Given as goal

abbrev pub decreases-put : goal.decreases-put
decreases-put l = 2 * l.f.0 + 1

abbrev pub decreases-put_all : goal.decreases-put_all
decreases-put_all l = 2 * l.bound

abbrev pub invariant-put_all-loop-f : goal.invariant-put_all-loop-f
invariant-put_all-loop-f l = record {
  grown : IsGrown l.initial.bank l.bank;
  below : HasFormulas l.bank l.made.items;
  done : formulas_at l.bank l.made.items ≡ map (put (terms_at l.initial.bank l.ts)) (formulas_at l.initial.bank (take l.f-index l.fs));
}
