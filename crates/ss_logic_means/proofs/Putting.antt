-- Terms in place of bound names, and parts, are well formed.
use Rattle.std.proofs.Common.{◌≡◌, ℕ, zero, suc, List, [], ◌∷◌, ◌++◌, length, true, ◌&&◌, eqb, Some, refl, sym, ◌∙◌, ap, subst, append_assoc, append-nil, arith}
use Rattle.std.specs.Prelude.{nat_lt}
use Rattle.std.proofs.lemmas.Bool.{false≢true, and_parts, and_from, ltb-true, lt-ltb}
use Rattle.ss_core.specs.Tree.{ClassTree}
use Rattle.ss_logic.specs.declared.Sort.{Sort}
use Rattle.ss_logic.specs.Terms.{Constant, Term, Bound, App, Terms, no_terms, term_then, same_sort, takes, sort_of, sorts_of, is_well_sorted, are_well_sorted, have_sorts}
use Rattle.ss_logic.specs.Formulas.{Formula, Formulas, Literal, And, Or, Forall, Exists, no_formulas, formula_then, formula_list, takes_sorts, is_bound_sort, are_bound_sorts, is_well_formed, are_well_formed, neg, bound_in, put_term, put_terms, put, put_all}
use Rattle.ss_logic.proofs.Truth.{equal_sorts}
use Rattle.ss_logic.proofs.Options.{when_some}
use Rattle.ss_logic_means.specs.Steps.{part_at, part_of, count_of, cases_of, are_constants, chosen}
use Rattle.ss_logic_means.specs.Sorts.{HasSort}
use Rattle.ss_logic_means.proofs.Sorting.{all_formed, neg_formed, sort_more}
use Rattle.ss_logic_means.proofs.Sentences.{none_some, F, All, Sorted, sorted_from}

module _ (cs : List ClassTree) where
  -- ---- terms in place of the first bound names

  bound_put : (ss : List Sort) (ts : List Term) → Sorted cs ss ts → (more : List Sort) (k : ℕ) → nat_lt k (length (ss ++ more)) ≡ true → HasSort cs more (sort_of cs (ss ++ more) (Bound k)) (bound_in ts k)
  bound_put [] [] are more k h = (refl, h)
  bound_put [] (t ∷ ts) are more k h = absurd are
  bound_put (s ∷ ss) [] are more k h = absurd are
  bound_put (s ∷ ss) (t ∷ ts) are more zero h = sort_more cs [] more s t are.0
  bound_put (s ∷ ss) (t ∷ ts) are more (suc k) h =
      let l = ltb-true (suc k) (suc (length (ss ++ more))) h in
      bound_put ss ts are.1 more k (lt-ltb k (length (ss ++ more)) (omega (arith, l)))

  module _ (ss : List Sort) (ts : List Term) (are : Sorted cs ss ts) where
    mutual
      term_put : (more : List Sort) (x : Term) → is_well_sorted cs (ss ++ more) x ≡ true → HasSort cs more (sort_of cs (ss ++ more) x) (put_term ts x)
      term_put more (Bound k) h = bound_put ss ts are more k h
      term_put more (App f xs) h =
          let p = and_parts (takes cs f (sorts_of cs (ss ++ more) xs)) (are_well_sorted cs (ss ++ more) xs) h in
          let rest = terms_put more xs p.1 in
          (refl, and_from (takes cs f (sorts_of cs more (put_terms ts xs))) (are_well_sorted cs more (put_terms ts xs)) (ap (takes cs f) rest.0 ∙ p.0) rest.1)

      terms_put : (more : List Sort) (xs : Terms) → are_well_sorted cs (ss ++ more) xs ≡ true → (sorts_of cs more (put_terms ts xs) ≡ sorts_of cs (ss ++ more) xs) × (are_well_sorted cs more (put_terms ts xs) ≡ true)
      terms_put more no_terms h = (refl, refl)
      terms_put more (term_then x xs) h =
          let p = and_parts (is_well_sorted cs (ss ++ more) x) (are_well_sorted cs (ss ++ more) xs) h in
          let first = term_put more x p.0 in
          let rest = terms_put more xs p.1 in (
            ap (λ s. s ∷ sorts_of cs more (put_terms ts xs)) first.0 ∙ ap (λ rs. sort_of cs (ss ++ more) x ∷ rs) rest.0,
            and_from (is_well_sorted cs more (put_term ts x)) (are_well_sorted cs more (put_terms ts xs)) first.1 rest.1,
          )

    mutual
      formula_put : (more : List Sort) (f : Formula) → is_well_formed cs (ss ++ more) f ≡ true → is_well_formed cs more (put ts f) ≡ true
      formula_put more (Literal sign p xs) h =
          let q = and_parts (takes_sorts p (sorts_of cs (ss ++ more) xs)) (are_well_sorted cs (ss ++ more) xs) h in
          let rest = terms_put more xs q.1 in
          and_from (takes_sorts p (sorts_of cs more (put_terms ts xs))) (are_well_sorted cs more (put_terms ts xs)) (ap (takes_sorts p) rest.0 ∙ q.0) rest.1
      formula_put more (And fs) h = formulas_put more fs h
      formula_put more (Or fs) h = formulas_put more fs h
      formula_put more (Forall rs f) h =
          let p = and_parts (are_bound_sorts rs) (is_well_formed cs ((ss ++ more) ++ rs) f) h in
          and_from (are_bound_sorts rs) (is_well_formed cs (more ++ rs) (put ts f)) p.0 (formula_put (more ++ rs) f (subst (λ w. is_well_formed cs w f ≡ true) (append_assoc ss more rs) p.1))
      formula_put more (Exists rs f) h =
          let p = and_parts (are_bound_sorts rs) (is_well_formed cs ((ss ++ more) ++ rs) f) h in
          and_from (are_bound_sorts rs) (is_well_formed cs (more ++ rs) (put ts f)) p.0 (formula_put (more ++ rs) f (subst (λ w. is_well_formed cs w f ≡ true) (append_assoc ss more rs) p.1))

      formulas_put : (more : List Sort) (fs : Formulas) → are_well_formed cs (ss ++ more) fs ≡ true → are_well_formed cs more (put_all ts fs) ≡ true
      formulas_put more no_formulas h = refl
      formulas_put more (formula_then f fs) h =
          let p = and_parts (is_well_formed cs (ss ++ more) f) (are_well_formed cs (ss ++ more) fs) h in
          and_from (is_well_formed cs more (put ts f)) (are_well_formed cs more (put_all ts fs)) (formula_put more f p.0) (formulas_put more fs p.1)

  -- the body of a quantifier at terms of its sorts
  body_formed : (ss : List Sort) (f : Formula) (ts : List Term) → F cs (Forall ss f) → Sorted cs ss ts → F cs (put ts f)
  body_formed ss f ts h are =
      let p = and_parts (are_bound_sorts ss) (is_well_formed cs ss f) h in
      formula_put ss ts are [] f (subst (λ w. is_well_formed cs w f ≡ true) (sym (append-nil ss)) p.1)

  pub forall_formed : (ss : List Sort) (f : Formula) (ts : List Term) → F cs (Forall ss f) → have_sorts cs ss ts ≡ true → F cs (put ts f)
  forall_formed ss f ts h k = body_formed ss f ts h (sorted_from cs ss ts k)

  constants_sorted : (ss : List Sort) (ts : List Term) → are_constants ss ts ≡ true → Sorted cs ss ts
  constants_sorted [] [] a = tt
  constants_sorted (s ∷ ss) (App (Constant r k) no_terms ∷ ts) a =
      let p = and_parts (same_sort r s && is_bound_sort r) (are_constants ss ts) a in
      let q = and_parts (same_sort r s) (is_bound_sort r) p.0 in
      ((equal_sorts r s q.0, refl), constants_sorted ss ts p.1)
  constants_sorted ss ts a = absurd (false≢true a)

  pub choice_formed : (ss : List Sort) (f : Formula) (ts : List Term) → F cs (Exists ss f) → are_constants ss ts ≡ true → F cs (chosen ss f ts)
  choice_formed ss f ts h a = all_formed cs [] (Forall ss (neg f) ∷ put ts f ∷ []) (neg_formed cs [] (Exists ss f) h, (body_formed ss f ts h (constants_sorted ss ts a), tt))

  -- ---- parts

  at_formed : (fs : Formulas) (j : ℕ) (f : Formula) → are_well_formed cs [] fs ≡ true → part_at fs j ≡ Some f → F cs f
  at_formed no_formulas j f h e = none_some f e
  at_formed (formula_then g fs) zero f h e =
      let same : g ≡ f = cc in
      subst (λ x. F cs x) same (and_parts (is_well_formed cs [] g) (are_well_formed cs [] fs) h).0
  at_formed (formula_then g fs) (suc j) f h e = at_formed fs j f (and_parts (is_well_formed cs [] g) (are_well_formed cs [] fs) h).1 e

  pub part_formed : (j : ℕ) (g f : Formula) → F cs g → part_of j g ≡ Some f → F cs f
  part_formed j (And fs) f h e = at_formed fs j f h e
  part_formed j g f h e = none_some f e

  listed_formed : (fs : Formulas) → are_well_formed cs [] fs ≡ true → All cs (formula_list fs)
  listed_formed no_formulas h = tt
  listed_formed (formula_then f fs) h = let p = and_parts (is_well_formed cs [] f) (are_well_formed cs [] fs) h in (p.0, listed_formed fs p.1)

  pub cases_formed : (k : ℕ) (g : Formula) (fs : List Formula) → F cs g → cases_of k g ≡ Some fs → All cs fs
  cases_formed k (Or gs) fs h e = let p = when_some (eqb (count_of gs) k) (formula_list gs) fs e in subst (λ xs. All cs xs) p.1 (listed_formed gs h)
  cases_formed k g fs h e = none_some fs e
