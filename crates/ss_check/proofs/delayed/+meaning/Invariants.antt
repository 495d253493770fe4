use Rattle.std.proofs.Common.{◌≡◌, ◌+◌, ◌*◌, take, map}
use Rattle.ss_core.specs.View as view
use Rattle.ss_terms.specs.Forms.{formulas_at, HasFormulas, IsGrown}
use Rattle.ss_check.specs.Delayed.{meant}
use Rattle.ss_check.proofs.delayed.+meaning.Given as goal

abbrev pub decreases-meant_at : goal.decreases-meant_at
decreases-meant_at l = 2 * l.f.0 + 1

abbrev pub decreases-all_meant_at : goal.decreases-all_meant_at
decreases-all_meant_at l = 2 * l.bound

abbrev pub invariant-all_meant_at-loop-f : goal.invariant-all_meant_at-loop-f
invariant-all_meant_at-loop-f l = record {
  grown : IsGrown l.initial.bank l.bank;
  below : HasFormulas l.bank l.made.items;
  done : formulas_at l.bank l.made.items ≡ map (meant (view.classes l.classes)) (formulas_at l.initial.bank (take l.f-index l.fs));
}
