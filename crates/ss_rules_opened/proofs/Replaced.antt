-- A formula in place of another, number by number.
use Rattle.std.proofs.Common.{◌≡◌, List, [], ◌∷◌, map, refl, sym, ◌∙◌, ap, if◌then◌else◌, Vec, Global}
use Rattle.ss_logic.specs.declared.Sort.{Sort}
use Rattle.ss_logic.specs.Formulas.{Formula, Literal, And, Or, Forall, Exists, formulas_from, formula_then}
use Rattle.ss_logic.specs.Equal.{same_formula}
use Rattle.ss_logic.specs.Opened.{replaced, all_replaced}
use Rattle.ss_terms.specs.Lists.{SmallVec}
use Rattle.ss_terms.specs.declared.forms.FormulaId.{FormulaId}
use Rattle.ss_terms.specs.declared.forms.Formula.TheVariants.{And as AndForm, Or as OrForm, Forall as ForallForm, Exists as ExistsForm}
use Rattle.ss_terms.specs.Forms.{Forms, formula_at, formulas_at, IsFormulaForm}

all_replaced-map : (x y : Formula) (fs : List Formula) → all_replaced x y (formulas_from fs) ≡ formulas_from (map (replaced x y) fs)
all_replaced-map x y [] = refl
all_replaced-map x y (f ∷ fs) = ap (formula_then (replaced x y f)) (all_replaced-map x y fs)

module _ (x y : Formula) (a : Forms) (f : FormulaId) where
  pub replaced_and : (b : Forms) (v : SmallVec FormulaId) (made : List FormulaId) → IsFormulaForm a f (AndForm v) → formulas_at b made ≡ map (replaced x y) (formulas_at a v.items) → And (formulas_from (formulas_at b made)) ≡ replaced x y (formula_at a f)
  replaced_and b v made n e = ap (λ xs. And (formulas_from xs)) e ∙ sym (ap And (all_replaced-map x y (formulas_at a v.items))) ∙ sym (ap (replaced x y) n.built)

  pub replaced_or : (b : Forms) (v : SmallVec FormulaId) (made : List FormulaId) → IsFormulaForm a f (OrForm v) → formulas_at b made ≡ map (replaced x y) (formulas_at a v.items) → Or (formulas_from (formulas_at b made)) ≡ replaced x y (formula_at a f)
  replaced_or b v made n e = ap (λ xs. Or (formulas_from xs)) e ∙ sym (ap Or (all_replaced-map x y (formulas_at a v.items))) ∙ sym (ap (replaced x y) n.built)

  at_forall : (g : Formula) (ss : List Sort) (h : Formula) → g ≡ Forall ss h → (if same_formula x g then y else g) ≡ replaced x y g
  at_forall g ss h e = ap (λ k. if same_formula x k then y else k) e ∙ sym (ap (replaced x y) e)

  at_exists : (g : Formula) (ss : List Sort) (h : Formula) → g ≡ Exists ss h → (if same_formula x g then y else g) ≡ replaced x y g
  at_exists g ss h e = ap (λ k. if same_formula x k then y else k) e ∙ sym (ap (replaced x y) e)

  pub replaced_forall : (ss : Vec Sort Global) (g : FormulaId) → IsFormulaForm a f (ForallForm ss g) → (if same_formula x (formula_at a f) then y else formula_at a f) ≡ replaced x y (formula_at a f)
  replaced_forall ss g n = at_forall (formula_at a f) ss.items (formula_at a g) n.built

  pub replaced_exists : (ss : Vec Sort Global) (g : FormulaId) → IsFormulaForm a f (ExistsForm ss g) → (if same_formula x (formula_at a f) then y else formula_at a f) ≡ replaced x y (formula_at a f)
  replaced_exists ss g n = at_exists (formula_at a f) ss.items (formula_at a g) n.built
