-- Numbers of a bank keep what they stand for, as it grows.
use Rattle.std.proofs.Common.{◌≡◌, ◌*◌, List, [], ◌∷◌, length, Option, Some, None, refl, ◌∙◌, ap, arith}
use Rattle.ss_core.specs.Tree.{ClassTree}
use Rattle.ss_terms.specs.declared.forms.TermId.{TermId}
use Rattle.ss_terms.specs.declared.forms.FormulaId.{FormulaId}
use Rattle.ss_terms.specs.Forms.{Forms, term_at, terms_at, formula_at, formulas_at, HasTerm, HasTerms, HasFormula, HasFormulas, IsGrown, IsBankOf}
use Rattle.ss_terms.specs.Numbered.{HasTermOf}
use Rattle.ss_terms.proofs.Trees.{AreTermsBelow-more, AreBelow-more}

pub IsGrown-refl : (b : Forms) → IsGrown b b
IsGrown-refl b = record { same_fields = refl; more_terms = omega arith; more_formulas = omega arith; same_terms = λ t h. refl; same_formulas = λ f h. refl }

pub IsGrown-then : (a b c : Forms) → IsGrown a b → IsGrown b c → IsGrown a c
IsGrown-then a b c g h = record {
  same_fields = h.same_fields ∙ g.same_fields;
  more_terms = omega (arith, g.more_terms, h.more_terms);
  more_formulas = omega (arith, g.more_formulas, h.more_formulas);
  same_terms = λ t at. h.same_terms t (omega (arith, g.more_terms, at)) ∙ g.same_terms t at;
  same_formulas = λ f at. h.same_formulas f (omega (arith, g.more_formulas, at)) ∙ g.same_formulas f at;
}

pub IsBankOf-grown : (cs : List ClassTree) (a b : Forms) → IsGrown a b → IsBankOf cs a → IsBankOf cs b
IsBankOf-grown cs a b g e = g.same_fields ∙ e

pub HasTerm-grown : (a b : Forms) → IsGrown a b → (t : TermId) → HasTerm a t → HasTerm b t
HasTerm-grown a b g t h = omega (arith, g.more_terms, h)

pub HasTermOf-grown : (a b : Forms) → IsGrown a b → (o : Option TermId) → HasTermOf a o → HasTermOf b o
HasTermOf-grown a b g None h = tt
HasTermOf-grown a b g (Some t) h = HasTerm-grown a b g t h

pub HasTerms-grown : (a b : Forms) → IsGrown a b → (ts : List TermId) → HasTerms a ts → HasTerms b ts
HasTerms-grown a b g ts h = AreTermsBelow-more (length a.terms) (length b.terms) (omega (arith, g.more_terms)) ts h

pub HasFormula-grown : (a b : Forms) → IsGrown a b → (f : FormulaId) → HasFormula a f → HasFormula b f
HasFormula-grown a b g f h = omega (arith, g.more_formulas, h)

pub HasFormulas-grown : (a b : Forms) → IsGrown a b → (fs : List FormulaId) → HasFormulas a fs → HasFormulas b fs
HasFormulas-grown a b g fs h = AreBelow-more (length a.formulas * 2) (length b.formulas * 2) (omega (arith, g.more_formulas)) fs h

pub terms_at-grown : (a b : Forms) → IsGrown a b → (ts : List TermId) → HasTerms a ts → terms_at b ts ≡ terms_at a ts
terms_at-grown a b g [] h = refl
terms_at-grown a b g (t ∷ ts) h = ap (λ x. x ∷ terms_at b ts) (g.same_terms t h.0) ∙ ap (λ xs. term_at a t ∷ xs) (terms_at-grown a b g ts h.1)

pub formulas_at-grown : (a b : Forms) → IsGrown a b → (fs : List FormulaId) → HasFormulas a fs → formulas_at b fs ≡ formulas_at a fs
formulas_at-grown a b g [] h = refl
formulas_at-grown a b g (f ∷ fs) h = ap (λ x. x ∷ formulas_at b fs) (g.same_formulas f h.0) ∙ ap (λ xs. formula_at a f ∷ xs) (formulas_at-grown a b g fs h.1)
