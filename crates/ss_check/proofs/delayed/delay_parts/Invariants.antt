use Rattle.std.proofs.Common.{◌≡◌, [], ◌∷◌, take, map}
use Rattle.ss_core.specs.View as view
use Rattle.ss_logic.specs.Formulas.{put}
use Rattle.ss_terms.specs.Forms.{term_at, formulas_at, HasFormulas, IsGrown}
use Rattle.ss_check.specs.Delayed.{meant}
use Rattle.ss_check.proofs.delayed.delay_parts.Given as goal

abbrev pub invariant-loop-f : goal.invariant-loop-f
invariant-loop-f l = record {
  grown : IsGrown l.initial.bank l.bank;
  below : HasFormulas l.bank l.made.items;
  done : map (meant (view.classes l.classes)) (formulas_at l.bank l.made.items) ≡ map (put (term_at l.initial.bank l.t ∷ [])) (formulas_at l.initial.bank (take l.f-index l.fs));
}
