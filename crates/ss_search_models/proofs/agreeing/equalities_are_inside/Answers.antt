use Rattle.std.proofs.Common.{◌≡◌, false, get_or, ◌∙◌, sym, ap, subst, arith, rules}
use Rattle.std.proofs.lemmas.Grind.{common_steps}
use Rattle.std.specs.List.{list_all}
use Rattle.std.proofs.lemmas.List.Folds.{list_all-map, list_all_at}
use Rattle.ss_logic_countermodels.specs.Refuting.{is_equal_inside}
use Rattle.ss_terms.specs.declared.forms.FormulaId.{FormulaId}
use Rattle.ss_terms.specs.Forms.{formula_at, formulas_at, HasFormulas}
use Rattle.ss_terms.proofs.Tested.{AreBelow-get}
use Rattle.ss_search_models.specs.Candidates.{model_at}
use Rattle.ss_search_models.proofs.agreeing.equalities_are_inside.Goals as goal

pub is_inside-requires-clause-formula : goal.is_inside-requires-clause-formula
is_inside-requires-clause-formula c =
    AreBelow-get _ c.deref-f-items.result.now c.loop-f.f-index (record { 0 = 0 }) (subst (HasFormulas c.args.bank.now) (sym c.deref-f-items.ensures.value) c.requires.told.has) c.loop-f-test.true

pub returns-then-not-is_inside : goal.returns-then-not-is_inside
returns-then-not-is_inside c =
    let b = c.args.bank.now in
    let m = model_at b c.args.candidate.now in
    let fs = c.deref-f-items.result.now in
    let d : FormulaId = record { 0 = 0 } in
    let off : is_equal_inside m (formula_at b (get_or fs c.loop-f.f-index d)) ≡ false = first_of (cc, search rules, grind (arith, common_steps)) in
    sym (ap (λ xs. list_all (is_equal_inside m) (formulas_at b xs)) (sym c.deref-f-items.ensures.value)
    ∙ list_all-map (is_equal_inside m) (formula_at b) fs
    ∙ list_all_at (λ (f : FormulaId). is_equal_inside m (formula_at b f)) fs c.loop-f.f-index d c.loop-f-test.true off)
