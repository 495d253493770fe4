-- The arguments of a literal are those that its form names.
use Rattle.std.proofs.Common.{◌≡◌, List, map, Bool, sym, ◌∙◌, ap, subst, Vec, Global}
use Rattle.ss_logic.specs.declared.Sort.{Sort}
use Rattle.ss_logic.specs.Terms.{Terms, terms_from}
use Rattle.ss_logic.specs.Formulas.{Predicate, Formula, Literal, And, Or, Forall, Exists, formulas_from}
use Rattle.ss_terms.specs.Lists.{SmallVec}
use Rattle.ss_terms.specs.declared.forms.TermId.{TermId}
use Rattle.ss_terms.specs.declared.forms.FormulaId.{FormulaId}
use Rattle.ss_terms.specs.declared.forms.Predicate as form
use Rattle.ss_terms.specs.declared.forms.Formula.TheVariants.{Literal as LiteralForm, And as AndForm, Or as OrForm, Forall as ForallForm, Exists as ExistsForm}
use Rattle.ss_terms.specs.Forms.{Forms, terms_at, formula_at, predicate_of, HasTerms, IsFormulaForm}

-- the arguments of the formula, where it is a literal
abbrev pub AreArguments : Forms → Formula → List TermId → Type 0
AreArguments b f xs = (holds : Bool) (p : Predicate) (ts : Terms) → f ≡ Literal holds p ts → ts ≡ terms_from (terms_at b xs)

module _ (b : Forms) (f : FormulaId) where
  pub literal_has : (s : Bool) (p : form.Predicate) (v : SmallVec TermId) (xs : List TermId) → IsFormulaForm b f (LiteralForm s p v) → xs ≡ v.items → HasTerms b xs
  literal_has s p v xs at e = subst (HasTerms b) (sym e) at.below

  pub literal_arguments : (s : Bool) (p : form.Predicate) (v : SmallVec TermId) (xs : List TermId) → IsFormulaForm b f (LiteralForm s p v) → xs ≡ v.items → AreArguments b (formula_at b f) xs
  literal_arguments s p v xs at e holds q ts is =
      let both : Literal s (predicate_of p) (terms_from (terms_at b v.items)) ≡ Literal holds q ts = sym at.built ∙ is in
      let same : ts ≡ terms_from (terms_at b v.items) = cc in
      same ∙ ap (λ ys. terms_from (terms_at b ys)) (sym e)

  pub and_arguments : (v : SmallVec FormulaId) (xs : List TermId) → IsFormulaForm b f (AndForm v) → AreArguments b (formula_at b f) xs
  and_arguments v xs at holds q ts is = let both : And (formulas_from (map (formula_at b) v.items)) ≡ Literal holds q ts = sym at.built ∙ is in cc

  pub or_arguments : (v : SmallVec FormulaId) (xs : List TermId) → IsFormulaForm b f (OrForm v) → AreArguments b (formula_at b f) xs
  or_arguments v xs at holds q ts is = let both : Or (formulas_from (map (formula_at b) v.items)) ≡ Literal holds q ts = sym at.built ∙ is in cc

  pub forall_arguments : (ss : Vec Sort Global) (g : FormulaId) (xs : List TermId) → IsFormulaForm b f (ForallForm ss g) → AreArguments b (formula_at b f) xs
  forall_arguments ss g xs at holds q ts is = let both : Forall ss.items (formula_at b g) ≡ Literal holds q ts = sym at.built ∙ is in cc

  pub exists_arguments : (ss : Vec Sort Global) (g : FormulaId) (xs : List TermId) → IsFormulaForm b f (ExistsForm ss g) → AreArguments b (formula_at b f) xs
  exists_arguments ss g xs at holds q ts is = let both : Exists ss.items (formula_at b g) ≡ Literal holds q ts = sym at.built ∙ is in cc
