-- Terms and formulas that are read as sums.
use Rattle.std.proofs.Common.{◌≡◌, ℕ, zero, suc, ◌<◌, ℤ, List, [], ◌∷◌, ◌++◌, length, get_or, Bool, true, false, Option, Some, None, refl, sym, ◌∙◌, ap, subst, arith}
use Rattle.std.specs.Prelude.{slice_get}
use Rattle.ss_core.specs.Tree.{ClassTree}
use Rattle.ss_logic.specs.Terms.{Term, App, terms_from}
use Rattle.ss_logic.specs.Formulas.{Literal}
use Rattle.ss_logic.specs.Sums as sums
use Rattle.ss_logic.specs.Sums.{linear, number_sum, term_sum, sum_times, product, difference, sum_fact, sum_fact_of}
use Rattle.ss_terms.specs.declared.forms.TermId.{TermId}
use Rattle.ss_terms.specs.declared.forms.FormulaId.{FormulaId}
use Rattle.ss_terms.specs.declared.forms.Symbol.{Symbol}
use Rattle.ss_terms.specs.declared.forms.Symbol.TheVariants as symbol
use Rattle.ss_terms.specs.declared.forms.Predicate.{Predicate}
use Rattle.ss_terms.specs.declared.forms.Predicate.TheVariants as predicate
use Rattle.ss_terms.specs.Forms.{Forms, symbol_of, predicate_of, term_at, HasFormula, HasFormulas}
use Rattle.ss_linear_sums.specs.declared.table.KeptSum.{KeptSum}
use Rattle.ss_linear_sums.specs.declared.forms.LinearSum.{LinearSum}
use Rattle.ss_linear_sums.specs.declared.summed.Operator.TheVariants as operator
use Rattle.ss_linear_sums.specs.Linear.{sum_at, HasParts}
use Rattle.ss_linear_sums.specs.Table.{IsKept, AreKept}
use Rattle.ss_linear_sums.specs.Readings.{operator_of}

-- ---- sums that are kept

pub AreKept-push : (b : Forms) (ks : List KeptSum) (k : KeptSum) → AreKept b ks → IsKept b k → AreKept b (ks ++ k ∷ [])
AreKept-push b [] k h x = (x, tt)
AreKept-push b (y ∷ ks) k h x = (h.0, AreKept-push b ks k h.1 x)

pub kept_at : (b : Forms) (ks : List KeptSum) (i : ℕ) (k : KeptSum) → AreKept b ks → i < length ks → k ≡ get_or ks i k → IsKept b k
kept_at b [] i k h l e = absurd (omega (arith, l))
kept_at b (x ∷ ks) zero k h l e = subst (IsKept b) (sym e) h.0
kept_at b (x ∷ ks) (suc i) k h l e = kept_at b ks i k h.1 (omega (arith, l)) e

pub copied_kept : (b : Forms) (k : KeptSum) (t : TermId) (s : LinearSum) → IsKept b k → k.term ≡ t → s.parts.items ≡ k.sum.parts.items → s.constant ≡ k.sum.constant →
    HasParts b s.parts.items × (linear (term_at b t) ≡ Some (sum_at b s))
copied_kept b k t s h e p c =
    let same : sum_at b s ≡ sum_at b k.sum = cc in
    (subst (HasParts b) (sym p) h.0, ap (λ x. linear (term_at b x)) (sym e) ∙ h.1 ∙ ap Some (sym same))

-- ---- terms

-- a function of other than two terms, and no number, is a term alone
pub alone_read : (f : Symbol) (ts : List Term) → ((n : ℤ) → operator.Number n ≡ operator_of f → ⊥) → (length ts ≡ 2 → ⊥) → linear (App (symbol_of f) (terms_from ts)) ≡ Some (term_sum (App (symbol_of f) (terms_from ts)))
alone_read (symbol.Number n) ts f g = absurd (f n refl)
alone_read s [] f g = refl
alone_read s (x ∷ []) f g = refl
alone_read s (x ∷ y ∷ []) f g = absurd (g refl)
alone_read s (x ∷ y ∷ z ∷ ts) f g = refl

-- ---- formulas

pub not_two : (cs : List ClassTree) (holds : Bool) (p : Predicate) (ts : List Term) → (length ts ≡ 2 → ⊥) → sum_fact_of cs (Literal holds (predicate_of p) (terms_from ts)) ≡ None
not_two cs s p (x ∷ y ∷ []) f = absurd (f refl)
not_two cs true predicate.AtMost [] f = refl
not_two cs true predicate.AtMost (x ∷ []) f = refl
not_two cs true predicate.AtMost (x ∷ y ∷ z ∷ ts) f = refl
not_two cs false predicate.AtMost [] f = refl
not_two cs false predicate.AtMost (x ∷ []) f = refl
not_two cs false predicate.AtMost (x ∷ y ∷ z ∷ ts) f = refl
not_two cs true predicate.Equal [] f = refl
not_two cs true predicate.Equal (x ∷ []) f = refl
not_two cs true predicate.Equal (x ∷ y ∷ z ∷ ts) f = refl
not_two cs s p ts f = refl

-- ---- sums without a first or a second

pub second_none : (o p : Option sums.LinearSum) (n : ℤ) → p ≡ None → sum_times o n p ≡ None
second_none None p n e = refl
second_none (Some a) p n e = rw e refl

pub formulas_get : (b : Forms) (fs : List FormulaId) (i : ℕ) (f : FormulaId) → HasFormulas b fs → slice_get fs i ≡ Some f → HasFormula b f
formulas_get b [] i f h e = absurd (let no_item : ⊥ = cc in no_item)
formulas_get b (g ∷ fs) zero f h e = let same : g ≡ f = cc in subst (λ x. HasFormula b x) same h.0
formulas_get b (g ∷ fs) (suc i) f h e = formulas_get b fs i f h.1 e
