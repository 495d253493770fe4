-- The sentences on the elements of arrays of references, one after the other.
use Rattle.std.proofs.Common.{◌≡◌, ℕ, zero, suc, ◌+◌, ◌*◌, ◌<◌, ◌≤◌, List, [], ◌∷◌, ◌++◌, length, map, take, drop, get_or, refl, sym, ◌∙◌, ap, subst, arith, append_assoc, add-one}
use Rattle.std.proofs.lemmas.List.{take_more, map_push}
use Rattle.ss_core.specs.Tree.{ClassTree}
use Rattle.ss_logic.specs.Formulas.{Formula}
use Rattle.ss_logic.specs.Good.{arrays_from}
use Rattle.ss_terms.specs.declared.forms.FormulaId.{FormulaId}
use Rattle.ss_terms.specs.declared.forms.TermId.{TermId}
use Rattle.ss_terms.specs.Forms.{Forms, term_at, formula_at, formulas_at, HasTerm, HasFormula, HasFormulas, IsGrown}
use Rattle.ss_terms.proofs.Grown.{HasFormulas-grown, formulas_at-grown}
use Rattle.ss_rules_basic.proofs.Made.{AreBelow-push}
use Rattle.ss_rules_good.specs.Fields.{element_of}

arrays_next : (cs : List ClassTree) (k t : ℕ) → k < length cs → arrays_from t (drop k cs) ≡ t ∷ arrays_from (t + 2) (drop (suc k) cs)
arrays_next [] k t h = absurd (omega arith)
arrays_next (c ∷ cs) zero t h = refl
arrays_next (c ∷ cs) (suc k) t h = arrays_next cs k t (omega arith)

pub one_array : (cs : List ClassTree) (k t u : ℕ) (before after all : List ℕ) → k < length cs → after ≡ before ++ t ∷ [] → u ≡ t + 2 → before ++ arrays_from t (drop k cs) ≡ all →
    after ++ arrays_from u (drop (k + 1) cs) ≡ all
one_array cs k t u before after all h e v was =
    ap (λ xs. xs ++ arrays_from u (drop (k + 1) cs)) e
    ∙ append_assoc before (t ∷ []) (arrays_from u (drop (k + 1) cs))
    ∙ ap (λ n. before ++ t ∷ arrays_from n (drop (k + 1) cs)) v
    ∙ ap (λ n. before ++ t ∷ arrays_from (t + 2) (drop n cs)) (add-one k)
    ∙ ap (λ xs. before ++ xs) (sym (arrays_next cs k t h))
    ∙ was

no_more_arrays : (cs : List ClassTree) (k t : ℕ) → length cs ≤ k → arrays_from t (drop k cs) ≡ []
no_more_arrays [] zero t h = refl
no_more_arrays [] (suc k) t h = refl
no_more_arrays (c ∷ cs) zero t h = absurd (omega arith)
no_more_arrays (c ∷ cs) (suc k) t h = no_more_arrays cs k t (omega arith)

append-nil : (xs : List ℕ) → xs ++ [] ≡ xs
append-nil [] = refl
append-nil (x ∷ xs) = ap (λ ys. x ∷ ys) (append-nil xs)

pub all_arrays : (cs : List ClassTree) (k t : ℕ) (before all : List ℕ) → length cs ≤ k → before ++ arrays_from t (drop k cs) ≡ all → before ≡ all
all_arrays cs k t before all h was = sym (append-nil before) ∙ ap (λ xs. before ++ xs) (sym (no_more_arrays cs k t h)) ∙ was

-- one more formula is made
module _ (b c : Forms) (g : IsGrown b c) (fs after : List FormulaId) (f : FormulaId) (e : after ≡ fs ++ f ∷ []) (there : HasFormulas b fs) where
  pub there_after : HasFormula c f → HasFormulas c after
  there_after h = subst (HasFormulas c) (sym e) (AreBelow-push (length c.formulas * 2) fs f (HasFormulas-grown b c g fs there) h)

  pub made_after : (says : ℕ → Formula) (first : Formula) (xs : List ℕ) (i d : ℕ) → i < length xs → formulas_at b fs ≡ first ∷ map says (take i xs) → formula_at c f ≡ says (get_or xs i d) →
      formulas_at c after ≡ first ∷ map says (take (i + 1) xs)
  made_after says first xs i d at was is =
      ap (formulas_at c) e
      ∙ map_push (formula_at c) fs f
      ∙ ap (λ ys. ys ++ formula_at c f ∷ []) (formulas_at-grown b c g fs there ∙ was)
      ∙ ap (λ y. (first ∷ map says (take i xs)) ++ y ∷ []) is
      ∙ ap (λ ys. first ∷ ys) (sym (map_push says (take i xs) (get_or xs i d)) ∙ ap (map says) (sym (take_more xs i d at)))

-- the sentence stays what it is, as the bank grows
pub element_kept : (a b : Forms) → IsGrown a b → (s o i : TermId) (t : ℕ) → HasTerm a s → HasTerm a o → HasTerm a i →
    element_of (term_at b s) (term_at b o) (term_at b i) t ≡ element_of (term_at a s) (term_at a o) (term_at a i) t
element_kept a b g s o i t h k l =
    ap (λ x. element_of x (term_at b o) (term_at b i) t) (g.same_terms s h)
    ∙ ap (λ x. element_of (term_at a s) x (term_at b i) t) (g.same_terms o k)
    ∙ ap (λ x. element_of (term_at a s) (term_at a o) x t) (g.same_terms i l)
