-- The greatest numbers of constants: of negations, and over lists of parts.
use Rattle.std.proofs.Common.{◌≡◌, ℕ, ◌+◌, ◌<◌, ◌≤◌, List, length, refl, sym, ◌∙◌, ap, get_or, drop, arith}
use Rattle.std.proofs.lemmas.List.{drop_more}
use Rattle.std.proofs.Math.Nat.{le-max_left, le-max_right, max-le}
use Rattle.std.specs.Prelude.{max}
use Rattle.ss_logic.specs.Terms.{terms_from}
use Rattle.ss_logic.specs.Formulas.{Formula, Formulas, Literal, And, Or, Forall, Exists, no_formulas, formula_then, formulas_from, neg, neg_all}
use Rattle.ss_terms.specs.declared.forms.TermId.{TermId}
use Rattle.ss_terms.specs.declared.forms.FormulaId.{FormulaId}
use Rattle.ss_terms.specs.Forms.{Forms, term_at, terms_at, formula_at, formulas_at}
use Rattle.ss_terms.specs.Highest.{highest_of_term, highest_of_terms, highest, highest_of_all}

pub max_then : (a b c : ℕ) → max (max a b) c ≡ max a (max b c)
max_then a b c =
    let ab = le-max_left a b in
    let ba = le-max_right a b in
    let bc = le-max_left b c in
    let cb = le-max_right b c in
    let right = le-max_left a (max b c) in
    let behind = le-max_right a (max b c) in
    let left = le-max_left (max a b) c in
    let before = le-max_right (max a b) c in
    let most : max (max a b) c ≤ max a (max b c) = max-le (max-le right (omega (arith, bc, behind))) (omega (arith, cb, behind)) in
    let least : max a (max b c) ≤ max (max a b) c = max-le (omega (arith, ab, left)) (max-le (omega (arith, ba, left)) before) in
    omega (arith, most, least)

mutual
  pub neg_highest : (f : Formula) → highest (neg f) ≡ highest f
  neg_highest (Literal s p ts) = refl
  neg_highest (And fs) = neg_all_highest fs
  neg_highest (Or fs) = neg_all_highest fs
  neg_highest (Forall ss f) = neg_highest f
  neg_highest (Exists ss f) = neg_highest f

  neg_all_highest : (fs : Formulas) → highest_of_all (neg_all fs) ≡ highest_of_all fs
  neg_all_highest no_formulas = refl
  neg_all_highest (formula_then f fs) = ap (λ n. max n (highest_of_all (neg_all fs))) (neg_highest f) ∙ ap (max (highest f)) (neg_all_highest fs)

-- one more part, in a loop over parts
module _ (b : Forms) where
  abbrev InTerms : List TermId → ℕ
  InTerms ts = highest_of_terms (terms_from (terms_at b ts))

  abbrev InFormulas : List FormulaId → ℕ
  InFormulas fs = highest_of_all (formulas_from (formulas_at b fs))

  pub terms_next : (ts : List TermId) (i : ℕ) (d : TermId) (n x : ℕ) → i < length ts → x ≡ highest_of_term (term_at b (get_or ts i d)) →
      max (max n x) (InTerms (drop (i + 1) ts)) ≡ max n (InTerms (drop i ts))
  terms_next ts i d n x h e =
      max_then n x (InTerms (drop (i + 1) ts))
      ∙ ap (λ v. max n (max v (InTerms (drop (i + 1) ts)))) e
      ∙ ap (λ us. max n (InTerms us)) (sym (drop_more ts i d h))

  pub formulas_next : (fs : List FormulaId) (i : ℕ) (d : FormulaId) (n x : ℕ) → i < length fs → x ≡ highest (formula_at b (get_or fs i d)) →
      max (max n x) (InFormulas (drop (i + 1) fs)) ≡ max n (InFormulas (drop i fs))
  formulas_next fs i d n x h e =
      max_then n x (InFormulas (drop (i + 1) fs))
      ∙ ap (λ v. max n (max v (InFormulas (drop (i + 1) fs)))) e
      ∙ ap (λ us. max n (InFormulas us)) (sym (drop_more fs i d h))
