-- Sorts of terms, and formulas of them that are well formed.
use Rattle.std.proofs.Common.{◌≡◌, ℕ, List, [], ◌∷◌, ◌++◌, length, Bool, true, ◌&&◌, map, refl, sym, ◌∙◌, ap, subst}
use Rattle.std.specs.Prelude.{unwrap_or, nat_lt}
use Rattle.std.proofs.lemmas.Bool.{and_parts, and_from, ltb-true, lt-ltb}
use Rattle.std.proofs.lemmas.Option.{slice_get_within}
use Rattle.ss_core.specs.Tree.{ClassTree}
use Rattle.ss_logic.specs.declared.Sort.{Sort}
use Rattle.ss_logic.specs.declared.Sort.TheVariants as sort
use Rattle.ss_logic.specs.Terms.{Symbol, Term, Bound, App, Terms, no_terms, term_then, terms_from, app, result_sort, takes, sort_of, sorts_of, is_well_sorted, are_well_sorted}
use Rattle.ss_logic.specs.Formulas.{Predicate, Equal, Formula, Formulas, Literal, And, Or, Forall, Exists, no_formulas, formula_then, formulas_from, takes_sorts, are_bound_sorts, is_well_formed, are_well_formed, neg, neg_all}
use Rattle.ss_logic.proofs.Truth.{same_sort_refl}
use Rattle.ss_logic_means.specs.Sorts.{HasSort, AreWellFormed}
use Rattle.ss_logic_means.proofs.Standing.{get_old, get_found}

module _ (cs : List ClassTree) (bound : List Sort) where
  -- ---- functions and predicates at arguments

  module _ (f : Symbol) where
    pub sorted_one : (s : Sort) (x : Term) → takes cs f (s ∷ []) ≡ true → HasSort cs bound s x → HasSort cs bound (result_sort cs f) (app f (x ∷ []))
    sorted_one s x h k =
        let fits = subst (λ u. takes cs f (u ∷ []) ≡ true) (sym k.0) h in
        (refl, and_from (takes cs f (sort_of cs bound x ∷ [])) (is_well_sorted cs bound x && true) fits (and_from (is_well_sorted cs bound x) true k.1 refl))

    pub sorted_two : (s r : Sort) (x y : Term) → takes cs f (s ∷ r ∷ []) ≡ true → HasSort cs bound s x → HasSort cs bound r y → HasSort cs bound (result_sort cs f) (app f (x ∷ y ∷ []))
    sorted_two s r x y h k l =
        let first = subst (λ u. takes cs f (u ∷ r ∷ []) ≡ true) (sym k.0) h in
        let fits = subst (λ u. takes cs f (sort_of cs bound x ∷ u ∷ []) ≡ true) (sym l.0) first in (
          refl,
          and_from (takes cs f (sort_of cs bound x ∷ sort_of cs bound y ∷ [])) (is_well_sorted cs bound x && (is_well_sorted cs bound y && true)) fits
              (and_from (is_well_sorted cs bound x) (is_well_sorted cs bound y && true) k.1 (and_from (is_well_sorted cs bound y) true l.1 refl)),
        )

    pub sorted_three : (s r q : Sort) (x y z : Term) → takes cs f (s ∷ r ∷ q ∷ []) ≡ true → HasSort cs bound s x → HasSort cs bound r y → HasSort cs bound q z →
        HasSort cs bound (result_sort cs f) (app f (x ∷ y ∷ z ∷ []))
    sorted_three s r q x y z h k l n =
        let first = subst (λ u. takes cs f (u ∷ r ∷ q ∷ []) ≡ true) (sym k.0) h in
        let second = subst (λ u. takes cs f (sort_of cs bound x ∷ u ∷ q ∷ []) ≡ true) (sym l.0) first in
        let fits = subst (λ u. takes cs f (sort_of cs bound x ∷ sort_of cs bound y ∷ u ∷ []) ≡ true) (sym n.0) second in (
          refl,
          and_from (takes cs f (sort_of cs bound x ∷ sort_of cs bound y ∷ sort_of cs bound z ∷ [])) (is_well_sorted cs bound x && (is_well_sorted cs bound y && (is_well_sorted cs bound z && true))) fits
              (and_from (is_well_sorted cs bound x) (is_well_sorted cs bound y && (is_well_sorted cs bound z && true)) k.1
              (and_from (is_well_sorted cs bound y) (is_well_sorted cs bound z && true) l.1 (and_from (is_well_sorted cs bound z) true n.1 refl))),
        )

  module _ (sign : Bool) (p : Predicate) where
    pub formed_one : (s : Sort) (x : Term) → takes_sorts p (s ∷ []) ≡ true → HasSort cs bound s x → is_well_formed cs bound (Literal sign p (terms_from (x ∷ []))) ≡ true
    formed_one s x h k =
        let fits = subst (λ u. takes_sorts p (u ∷ []) ≡ true) (sym k.0) h in
        and_from (takes_sorts p (sort_of cs bound x ∷ [])) (is_well_sorted cs bound x && true) fits (and_from (is_well_sorted cs bound x) true k.1 refl)

    pub formed_two : (s r : Sort) (x y : Term) → takes_sorts p (s ∷ r ∷ []) ≡ true → HasSort cs bound s x → HasSort cs bound r y → is_well_formed cs bound (Literal sign p (terms_from (x ∷ y ∷ []))) ≡ true
    formed_two s r x y h k l =
        let first = subst (λ u. takes_sorts p (u ∷ r ∷ []) ≡ true) (sym k.0) h in
        let fits = subst (λ u. takes_sorts p (sort_of cs bound x ∷ u ∷ []) ≡ true) (sym l.0) first in
        and_from (takes_sorts p (sort_of cs bound x ∷ sort_of cs bound y ∷ [])) (is_well_sorted cs bound x && (is_well_sorted cs bound y && true)) fits
        (and_from (is_well_sorted cs bound x) (is_well_sorted cs bound y && true) k.1 (and_from (is_well_sorted cs bound y) true l.1 refl))

  -- terms of one sort are equal or differ
  pub equal_formed : (sign : Bool) (s : Sort) (x y : Term) → HasSort cs bound s x → HasSort cs bound s y → is_well_formed cs bound (Literal sign Equal (terms_from (x ∷ y ∷ []))) ≡ true
  equal_formed sign s x y h k = formed_two sign Equal s s x y (same_sort_refl s) h k

  -- ---- lists of formulas

  pub all_formed : (fs : List Formula) → AreWellFormed cs bound fs → are_well_formed cs bound (formulas_from fs) ≡ true
  all_formed [] h = refl
  all_formed (f ∷ fs) h = and_from (is_well_formed cs bound f) (are_well_formed cs bound (formulas_from fs)) h.0 (all_formed fs h.1)

  pub more_formed : (fs gs : List Formula) → AreWellFormed cs bound fs → AreWellFormed cs bound gs → AreWellFormed cs bound (fs ++ gs)
  more_formed [] gs h k = k
  more_formed (f ∷ fs) gs h k = (h.0, more_formed fs gs h.1 k)

  pub each_formed : (g : Formula → Formula) (fs : List Formula) → ((f : Formula) → is_well_formed cs bound f ≡ true → is_well_formed cs bound (g f) ≡ true) → AreWellFormed cs bound fs → AreWellFormed cs bound (map g fs)
  each_formed g [] h k = tt
  each_formed g (f ∷ fs) h k = (h f k.0, each_formed g fs h k.1)

-- ---- negations

module _ (cs : List ClassTree) where
  mutual
    pub neg_formed : (bound : List Sort) (f : Formula) → is_well_formed cs bound f ≡ true → is_well_formed cs bound (neg f) ≡ true
    neg_formed bound (Literal sign p ts) h = h
    neg_formed bound (And fs) h = negs_formed bound fs h
    neg_formed bound (Or fs) h = negs_formed bound fs h
    neg_formed bound (Forall ss f) h =
        let p = and_parts (are_bound_sorts ss) (is_well_formed cs (bound ++ ss) f) h in
        and_from (are_bound_sorts ss) (is_well_formed cs (bound ++ ss) (neg f)) p.0 (neg_formed (bound ++ ss) f p.1)
    neg_formed bound (Exists ss f) h =
        let p = and_parts (are_bound_sorts ss) (is_well_formed cs (bound ++ ss) f) h in
        and_from (are_bound_sorts ss) (is_well_formed cs (bound ++ ss) (neg f)) p.0 (neg_formed (bound ++ ss) f p.1)

    negs_formed : (bound : List Sort) (fs : Formulas) → are_well_formed cs bound fs ≡ true → are_well_formed cs bound (neg_all fs) ≡ true
    negs_formed bound no_formulas h = refl
    negs_formed bound (formula_then f fs) h =
        let p = and_parts (is_well_formed cs bound f) (are_well_formed cs bound fs) h in
        and_from (is_well_formed cs bound (neg f)) (are_well_formed cs bound (neg_all fs)) (neg_formed bound f p.0) (negs_formed bound fs p.1)

-- ---- a term has its sort at more bound names after

module _ (cs : List ClassTree) (bound more : List Sort) where
  bound_more : (k : ℕ) → nat_lt k (length bound) ≡ true → HasSort cs (bound ++ more) (sort_of cs bound (Bound k)) (Bound k)
  bound_more k h =
      let s = get_found bound k (ltb-true k (length bound) h) in
      let there = get_old bound more k s.0 s.1 in
      (ap (λ o. unwrap_or o sort.Rest) (there ∙ sym s.1), lt-ltb k (length (bound ++ more)) (slice_get_within (bound ++ more) k s.0 there))

  mutual
    term_more : (t : Term) → is_well_sorted cs bound t ≡ true → HasSort cs (bound ++ more) (sort_of cs bound t) t
    term_more (Bound k) h = bound_more k h
    term_more (App f ts) h =
        let p = and_parts (takes cs f (sorts_of cs bound ts)) (are_well_sorted cs bound ts) h in
        let rest = terms_more ts p.1 in
        (refl, and_from (takes cs f (sorts_of cs (bound ++ more) ts)) (are_well_sorted cs (bound ++ more) ts) (ap (takes cs f) rest.0 ∙ p.0) rest.1)

    terms_more : (ts : Terms) → are_well_sorted cs bound ts ≡ true → (sorts_of cs (bound ++ more) ts ≡ sorts_of cs bound ts) × (are_well_sorted cs (bound ++ more) ts ≡ true)
    terms_more no_terms h = (refl, refl)
    terms_more (term_then t ts) h =
        let p = and_parts (is_well_sorted cs bound t) (are_well_sorted cs bound ts) h in
        let first = term_more t p.0 in
        let rest = terms_more ts p.1 in (
          ap (λ s. s ∷ sorts_of cs (bound ++ more) ts) first.0 ∙ ap (λ ss. sort_of cs bound t ∷ ss) rest.0,
          and_from (is_well_sorted cs (bound ++ more) t) (are_well_sorted cs (bound ++ more) ts) first.1 rest.1,
        )

  pub sort_more : (s : Sort) (t : Term) → HasSort cs bound s t → HasSort cs (bound ++ more) s t
  sort_more s t h = let there = term_more t h.1 in (there.0 ∙ h.0, there.1)
