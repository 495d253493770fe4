-- Formulas under more bound names, number by number; a term without bound names stays what it is.
use Rattle.std.proofs.Common.{◌≡◌, ℕ, List, [], ◌∷◌, map, true, refl, sym, ◌∙◌, ap, arith}
use Rattle.std.specs.Prelude.{◌<◌}
use Rattle.std.proofs.lemmas.Bool.{ltb-true, and_parts}
use Rattle.ss_core.specs.Tree.{ClassTree}
use Rattle.ss_logic.specs.Terms.{Term, Bound, App, Terms, no_terms, term_then, terms_from, takes, sorts_of, is_well_sorted, are_well_sorted}
use Rattle.ss_logic.specs.Formulas.{Formula, And, Or, formulas_from, formula_then}
use Rattle.ss_logic.specs.Frames.{lifted_term, lifted_terms, lifted, all_lifted}
use Rattle.ss_terms.specs.Lists.{SmallVec}
use Rattle.ss_terms.specs.declared.forms.TermId.{TermId}
use Rattle.ss_terms.specs.declared.forms.FormulaId.{FormulaId}
use Rattle.ss_terms.specs.declared.forms.Symbol.{Symbol}
use Rattle.ss_terms.specs.declared.forms.Term.TheVariants.{App as AppForm}
use Rattle.ss_terms.specs.declared.forms.Formula.TheVariants.{And as AndForm, Or as OrForm}
use Rattle.ss_terms.specs.Forms.{Forms, symbol_of, IsTermForm, IsFormulaForm, term_at, terms_at, formula_at, formulas_at}

module _ (cs : List ClassTree) (n : ℕ) where
  mutual
    pub closed_term : (t : Term) → is_well_sorted cs [] t ≡ true → lifted_term n t ≡ t
    closed_term (Bound k) h = let small : k < 0 = ltb-true k 0 h in absurd (omega arith)
    closed_term (App f ts) h = ap (App f) (closed_terms ts (and_parts (takes cs f (sorts_of cs [] ts)) (are_well_sorted cs [] ts) h).1)

    closed_terms : (ts : Terms) → are_well_sorted cs [] ts ≡ true → lifted_terms n ts ≡ ts
    closed_terms no_terms h = refl
    closed_terms (term_then t ts) h =
        let p = and_parts (is_well_sorted cs [] t) (are_well_sorted cs [] ts) h in
        ap (λ x. term_then x (lifted_terms n ts)) (closed_term t p.0) ∙ ap (term_then t) (closed_terms ts p.1)

pub lifted_terms-map : (n : ℕ) (xs : List Term) → lifted_terms n (terms_from xs) ≡ terms_from (map (lifted_term n) xs)
lifted_terms-map n [] = refl
lifted_terms-map n (x ∷ xs) = ap (term_then (lifted_term n x)) (lifted_terms-map n xs)

pub all_lifted-map : (n : ℕ) (fs : List Formula) → all_lifted n (formulas_from fs) ≡ formulas_from (map (lifted n) fs)
all_lifted-map n [] = refl
all_lifted-map n (f ∷ fs) = ap (formula_then (lifted n f)) (all_lifted-map n fs)

pub lift_app : (n : ℕ) (a b : Forms) (t : TermId) (f : Symbol) (v : SmallVec TermId) (made : List TermId) → IsTermForm a t (AppForm f v) → terms_at b made ≡ map (lifted_term n) (terms_at a v.items) →
    App (symbol_of f) (terms_from (terms_at b made)) ≡ lifted_term n (term_at a t)
lift_app k a b t f v made n e = ap (λ xs. App (symbol_of f) (terms_from xs)) e ∙ sym (ap (App (symbol_of f)) (lifted_terms-map k (terms_at a v.items))) ∙ sym (ap (lifted_term k) n.built)

pub lift_and : (n : ℕ) (a b : Forms) (f : FormulaId) (v : SmallVec FormulaId) (made : List FormulaId) → IsFormulaForm a f (AndForm v) → formulas_at b made ≡ map (lifted n) (formulas_at a v.items) →
    And (formulas_from (formulas_at b made)) ≡ lifted n (formula_at a f)
lift_and k a b f v made n e = ap (λ xs. And (formulas_from xs)) e ∙ sym (ap And (all_lifted-map k (formulas_at a v.items))) ∙ sym (ap (lifted k) n.built)

pub lift_or : (n : ℕ) (a b : Forms) (f : FormulaId) (v : SmallVec FormulaId) (made : List FormulaId) → IsFormulaForm a f (OrForm v) → formulas_at b made ≡ map (lifted n) (formulas_at a v.items) →
    Or (formulas_from (formulas_at b made)) ≡ lifted n (formula_at a f)
lift_or k a b f v made n e = ap (λ xs. Or (formulas_from xs)) e ∙ sym (ap Or (all_lifted-map k (formulas_at a v.items))) ∙ sym (ap (lifted k) n.built)
