use Rattle.std.proofs.Common.{◌≡◌, ◌+◌, ◌*◌, take, map}
use Rattle.ss_logic.specs.Opened.{replaced}
use Rattle.ss_terms.specs.Forms.{formula_at, formulas_at, HasFormulas, IsGrown}
use Rattle.ss_rules_opened.proofs.replacing.+replacing.Given as goal

abbrev pub decreases-replaced : goal.decreases-replaced
decreases-replaced l = 2 * l.f.0 + 1

abbrev pub decreases-replaced_below : goal.decreases-replaced_below
decreases-replaced_below l = 2 * l.bound

abbrev pub invariant-replaced_below-loop-f : goal.invariant-replaced_below-loop-f
invariant-replaced_below-loop-f l = record {
  grown : IsGrown l.initial.bank l.bank;
  below : HasFormulas l.bank l.made.items;
  done : formulas_at l.bank l.made.items ≡ map (replaced (formula_at l.initial.bank l.from) (formula_at l.initial.bank l.to)) (formulas_at l.initial.bank (take l.f-index l.fs));
}
