-- What the forms of formulas say.
use Rattle.std.proofs.Common.{◌≡◌, ℕ, List, map, Bool, true, false, refl, sym, ◌∙◌, ap, subst, Vec, Global}
use Rattle.ss_logic.specs.declared.Sort.{Sort}
use Rattle.ss_logic.specs.Formulas.{neg}
use Rattle.ss_terms.specs.Lists.{SmallVec}
use Rattle.ss_terms.specs.declared.forms.TermId.{TermId}
use Rattle.ss_terms.specs.declared.forms.FormulaId.{FormulaId}
use Rattle.ss_terms.specs.declared.forms.Predicate as form
use Rattle.ss_terms.specs.declared.forms.Formula.TheVariants.{Literal as LiteralForm, And as AndForm, Or as OrForm, Forall as ForallForm, Exists as ExistsForm}
use Rattle.ss_terms.specs.Forms.{Forms, formula_at, predicate_of, HasFormula, IsFormulaForm}
use Rattle.ss_equality_rules.specs.Equal.{class_number}
use Rattle.ss_search_procedure_rules.specs.Clashes.{Classing}
use Rattle.ss_search_clashes.specs.Numbered.{IsClassing}
use Rattle.ss_search_clashes.specs.Says.{Key, AtomKey, QuantifiedKey, Says}
use Rattle.ss_search_clashes.proofs.Numbers.{classes_numbered}

module _ (b : Forms) (class : Classing) (f : FormulaId) where
  pub literal_says : (classes : List ℕ) → IsClassing b classes class → (s : Bool) (p : form.Predicate) (v : SmallVec TermId) (ns : List ℕ) → IsFormulaForm b f (LiteralForm s p v) → ns ≡ map (class_number classes) v.items →
      Says b class (formula_at b f) (AtomKey (predicate_of p) ns) s
  literal_says classes c s p v ns at e = subst (λ x. Says b class x (AtomKey (predicate_of p) ns) s) (sym at.built) (ap (AtomKey (predicate_of p)) (e ∙ sym (classes_numbered b classes class c v.items at.below)), refl)

  pub forall_says : (ss : Vec Sort Global) (g : FormulaId) → HasFormula b f → IsFormulaForm b f (ForallForm ss g) → Says b class (formula_at b f) (QuantifiedKey f.0) true
  forall_says ss g h at = subst (λ x. Says b class x (QuantifiedKey f.0) true) (sym at.built) (f, h, at.built, refl, refl)

  pub exists_says : (ss : Vec Sort Global) (g n : FormulaId) → HasFormula b n → formula_at b n ≡ neg (formula_at b f) → IsFormulaForm b f (ExistsForm ss g) → Says b class (formula_at b f) (QuantifiedKey n.0) false
  exists_says ss g n h e at = subst (λ x. Says b class x (QuantifiedKey n.0) false) (sym at.built) (n, h, e ∙ ap neg at.built, refl, refl)

  pub and_silent : (v : SmallVec FormulaId) → IsFormulaForm b f (AndForm v) → (k : Key) (holds : Bool) → Says b class (formula_at b f) k holds → ⊥
  and_silent v at k holds h = subst (λ x. Says b class x k holds) at.built h

  pub or_silent : (v : SmallVec FormulaId) → IsFormulaForm b f (OrForm v) → (k : Key) (holds : Bool) → Says b class (formula_at b f) k holds → ⊥
  or_silent v at k holds h = subst (λ x. Says b class x k holds) at.built h
