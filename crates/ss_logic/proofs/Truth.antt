-- A formula or its negation is true, and not both; a formula at terms is true where it is at their values.
use Rattle.std.proofs.Common.{◌≡◌, ℕ, zero, suc, List, [], ◌∷◌, ◌++◌, Bool, true, false, not, ◌&&◌, map, refl, sym, ◌∙◌, ap, subst, append_assoc, append-nil, arith}
use Rattle.std.proofs.lemmas.Bool.{false≢true, and_parts, ltb-true}
use Rattle.std.proofs.Math.Path.{fun_ext}
use Rattle.std.specs.Prelude.{nat_lt}
use Rattle.ss_core.specs.declared.names.Ty.{Ty}
use Rattle.ss_core.specs.declared.names.Ty.TheVariants as ty
use Rattle.ss_core.specs.Tree.{ClassTree}
use Rattle.ss_logic.specs.declared.Sort.{Sort}
use Rattle.ss_logic.specs.declared.Sort.TheVariants as sort
use Rattle.ss_logic.specs.Values.{Cells, Value, sort_of_value, Structure}
use Rattle.ss_logic.specs.Terms.{Symbol, Constant, Field, Element, Term, Bound, App, Terms, no_terms, term_then, sort_of_type, field_sort, same_sort, same_sorts, is_store_sort, result_sort, takes, sort_of, sorts_of, is_well_sorted, are_well_sorted, have_sorts, constant_value, cell, argument, applied, value_of, values_of}
use Rattle.ss_logic.specs.Formulas.{Formula, Formulas, Literal, And, Or, Forall, Exists, no_formulas, formula_then, Holds, Signed, AreOf, True, AllTrue, NoneTrue, neg, neg_all, bound_in, put_term, put_terms, put, put_all}
use Rattle.ss_logic.proofs.Stable.{NotNot, holds_stable, signed_both, signed_neg, signed_pos}

module _ (cs : List ClassTree) (m : Structure) where
  mutual
    pub not_both : (e : List Value) (f : Formula) → True cs m e f → True cs m e (neg f) → ⊥
    not_both e (Literal sign p ts) t n = signed_both sign (Holds cs m p (values_of cs m e ts)) t n
    not_both e (And fs) t n = n (none_of_negs e fs t)
    not_both e (Or fs) t n = t (none_from_negs e fs n)
    not_both e (Forall ss f) t n = n (λ vs o k. not_both (e ++ vs) f (t vs o) k)
    not_both e (Exists ss f) t n = t (λ vs o k. not_both (e ++ vs) f k (n vs o))

    none_of_negs : (e : List Value) (fs : Formulas) → AllTrue cs m e fs → NoneTrue cs m e (neg_all fs)
    none_of_negs e no_formulas t = tt
    none_of_negs e (formula_then f fs) t = (λ k. not_both e f t.0 k, none_of_negs e fs t.1)

    none_from_negs : (e : List Value) (fs : Formulas) → AllTrue cs m e (neg_all fs) → NoneTrue cs m e fs
    none_from_negs e no_formulas t = tt
    none_from_negs e (formula_then f fs) t = (λ k. not_both e f k t.0, none_from_negs e fs t.1)

  mutual
    pub neg_true : (e : List Value) (f : Formula) → (True cs m e f → ⊥) → True cs m e (neg f)
    neg_true e (Literal sign p ts) h = signed_neg sign (Holds cs m p (values_of cs m e ts)) (holds_stable cs m p (values_of cs m e ts)) h
    neg_true e (And fs) h = λ n. h (all_from_none e fs n)
    neg_true e (Or fs) h = negs_from_double e fs h
    neg_true e (Forall ss f) h = λ n. h (λ vs o. not_neg_true (e ++ vs) f (n vs o))
    neg_true e (Exists ss f) h = λ vs o. neg_true (e ++ vs) f (λ t. h (λ n. n vs o t))

    pub not_neg_true : (e : List Value) (f : Formula) → (True cs m e (neg f) → ⊥) → True cs m e f
    not_neg_true e (Literal sign p ts) h = signed_pos sign (Holds cs m p (values_of cs m e ts)) (holds_stable cs m p (values_of cs m e ts)) h
    not_neg_true e (And fs) h = all_from_double e fs h
    not_neg_true e (Or fs) h = λ n. h (negs_from_none e fs n)
    not_neg_true e (Forall ss f) h = λ vs o. not_neg_true (e ++ vs) f (λ t. h (λ n. n vs o t))
    not_neg_true e (Exists ss f) h = λ n. h (λ vs o. neg_true (e ++ vs) f (n vs o))

    all_from_none : (e : List Value) (fs : Formulas) → NoneTrue cs m e (neg_all fs) → AllTrue cs m e fs
    all_from_none e no_formulas n = tt
    all_from_none e (formula_then f fs) n = (not_neg_true e f n.0, all_from_none e fs n.1)

    all_from_double : (e : List Value) (fs : Formulas) → ((NoneTrue cs m e (neg_all fs) → ⊥) → ⊥) → AllTrue cs m e fs
    all_from_double e no_formulas h = tt
    all_from_double e (formula_then f fs) h = (not_neg_true e f (λ k. h (λ n. n.0 k)), all_from_double e fs (λ k. h (λ n. k n.1)))

    negs_from_none : (e : List Value) (fs : Formulas) → NoneTrue cs m e fs → AllTrue cs m e (neg_all fs)
    negs_from_none e no_formulas n = tt
    negs_from_none e (formula_then f fs) n = (neg_true e f n.0, negs_from_none e fs n.1)

    negs_from_double : (e : List Value) (fs : Formulas) → ((NoneTrue cs m e fs → ⊥) → ⊥) → AllTrue cs m e (neg_all fs)
    negs_from_double e no_formulas h = tt
    negs_from_double e (formula_then f fs) h = (neg_true e f (λ k. h (λ n. n.0 k)), negs_from_double e fs (λ k. h (λ n. k n.1)))

  -- what isn't false is true
  pub formula_stable : (e : List Value) (f : Formula) → NotNot (True cs m e f) → True cs m e f
  formula_stable e f h = not_neg_true e f (λ n. h (λ t. not_both e f t n))

not_not : (b : Bool) → not (not b) ≡ b
not_not true = refl
not_not false = refl

mutual
  pub neg_neg : (f : Formula) → neg (neg f) ≡ f
  neg_neg (Literal sign p ts) = ap (λ s. Literal s p ts) (not_not sign)
  neg_neg (And fs) = ap And (neg_all_neg_all fs)
  neg_neg (Or fs) = ap Or (neg_all_neg_all fs)
  neg_neg (Forall ss f) = ap (Forall ss) (neg_neg f)
  neg_neg (Exists ss f) = ap (Exists ss) (neg_neg f)

  neg_all_neg_all : (fs : Formulas) → neg_all (neg_all fs) ≡ fs
  neg_all_neg_all no_formulas = refl
  neg_all_neg_all (formula_then f fs) = ap (λ g. formula_then g (neg_all (neg_all fs))) (neg_neg f) ∙ ap (formula_then f) (neg_all_neg_all fs)

-- ---- sorts

pub type_sort : (t : Ty) → is_store_sort (sort_of_type t) ≡ false
type_sort ty.Int = refl
type_sort ty.Bool = refl
type_sort ty.Null = refl
type_sort (ty.Ref t n) = refl

cell_sorted : {P : Type 0} (s : Sort) (c : Cells P) (i : P) → is_store_sort s ≡ false → sort_of_value (cell s c i) ≡ s
cell_sorted sort.Whole c i h = refl
cell_sorted sort.Truth c i h = refl
cell_sorted sort.Rest c i h = refl
cell_sorted sort.Store c i h = absurd (false≢true (sym h))

constant_sorted : (m : Structure) (s : Sort) (k : ℕ) → sort_of_value (constant_value m s k) ≡ s
constant_sorted m sort.Store k = refl
constant_sorted m sort.Whole k = refl
constant_sorted m sort.Truth k = refl
constant_sorted m sort.Rest k = refl

not_false : (b : Bool) → not b ≡ true → b ≡ false
not_false true h = absurd (false≢true h)
not_false false h = refl

pub applied_sorted : (cs : List ClassTree) (m : Structure) (f : Symbol) (ss : List Sort) (vs : List Value) → takes cs f ss ≡ true → sort_of_value (applied cs m f vs) ≡ result_sort cs f
applied_sorted cs m (Constant s k) ss vs h = constant_sorted m s k
applied_sorted cs m (Field f) ss vs h = cell_sorted (field_sort cs f) _ f (type_sort _)
applied_sorted cs m (Element s) ss vs h = cell_sorted s _ _ (not_false (is_store_sort s) (and_parts (same_sorts ss (sort.Store ∷ sort.Rest ∷ sort.Whole ∷ [])) (not (is_store_sort s)) h).1)
applied_sorted cs m f ss vs h = refl

-- a term without bound names has a value of its sort
pub value_sorted : (cs : List ClassTree) (m : Structure) (t : Term) → is_well_sorted cs [] t ≡ true → sort_of_value (value_of cs m [] t) ≡ sort_of cs [] t
value_sorted cs m (Bound k) h = refl
value_sorted cs m (App f ts) h = applied_sorted cs m f (sorts_of cs [] ts) (values_of cs m [] ts) (and_parts (takes cs f (sorts_of cs [] ts)) (are_well_sorted cs [] ts) h).0

pub equal_sorts : (s r : Sort) → same_sort s r ≡ true → s ≡ r
equal_sorts sort.Store sort.Store h = refl
equal_sorts sort.Whole sort.Whole h = refl
equal_sorts sort.Truth sort.Truth h = refl
equal_sorts sort.Rest sort.Rest h = refl
equal_sorts s r h = absurd (false≢true h)

pub same_sort_refl : (s : Sort) → same_sort s s ≡ true
same_sort_refl sort.Store = refl
same_sort_refl sort.Whole = refl
same_sort_refl sort.Truth = refl
same_sort_refl sort.Rest = refl

-- the values of terms without bound names
abbrev pub values : List ClassTree → Structure → List Term → List Value
values cs m ts = map (value_of cs m []) ts

pub AreOf-values : (cs : List ClassTree) (m : Structure) (ss : List Sort) (ts : List Term) → have_sorts cs ss ts ≡ true → AreOf ss (values cs m ts)
AreOf-values cs m [] [] h = tt
AreOf-values cs m [] (t ∷ ts) h = false≢true h
AreOf-values cs m (s ∷ ss) [] h = false≢true h
AreOf-values cs m (s ∷ ss) (t ∷ ts) h =
    let p = and_parts (same_sort (sort_of cs [] t) s && is_well_sorted cs [] t) (have_sorts cs ss ts) h in
    let q = and_parts (same_sort (sort_of cs [] t) s) (is_well_sorted cs [] t) p.0 in
    (value_sorted cs m t q.1 ∙ equal_sorts _ s q.0, AreOf-values cs m ss ts p.1)

-- ---- the value of a term without bound names doesn't rest on their values

-- each of the terms has no bound name
abbrev pub AllClosed : List ClassTree → List Term → Type 0
AllClosed cs [] = Unit {0}
AllClosed cs (t ∷ ts) = (is_well_sorted cs [] t ≡ true) × AllClosed cs ts

pub AllClosed-sorts : (cs : List ClassTree) (ss : List Sort) (ts : List Term) → have_sorts cs ss ts ≡ true → AllClosed cs ts
AllClosed-sorts cs [] [] h = tt
AllClosed-sorts cs [] (t ∷ ts) h = absurd (false≢true h)
AllClosed-sorts cs (s ∷ ss) [] h = tt
AllClosed-sorts cs (s ∷ ss) (t ∷ ts) h =
    let p = and_parts (same_sort (sort_of cs [] t) s && is_well_sorted cs [] t) (have_sorts cs ss ts) h in
    ((and_parts (same_sort (sort_of cs [] t) s) (is_well_sorted cs [] t) p.0).1, AllClosed-sorts cs ss ts p.1)

none_below : (k : ℕ) → nat_lt k 0 ≡ true → ⊥
none_below k h = let l = ltb-true k 0 h in omega (arith, l)

module _ (cs : List ClassTree) (m : Structure) where
  mutual
    pub closed_value : (e : List Value) (t : Term) → is_well_sorted cs [] t ≡ true → value_of cs m e t ≡ value_of cs m [] t
    closed_value e (Bound k) h = absurd (none_below k h)
    closed_value e (App f ts) h = ap (applied cs m f) (closed_values e ts (and_parts (takes cs f (sorts_of cs [] ts)) (are_well_sorted cs [] ts) h).1)

    pub closed_values : (e : List Value) (ts : Terms) → are_well_sorted cs [] ts ≡ true → values_of cs m e ts ≡ values_of cs m [] ts
    closed_values e no_terms h = refl
    closed_values e (term_then t ts) h =
        let p = and_parts (is_well_sorted cs [] t) (are_well_sorted cs [] ts) h in
        ap (λ v. v ∷ values_of cs m e ts) (closed_value e t p.0) ∙ ap (λ vs. value_of cs m [] t ∷ vs) (closed_values e ts p.1)

  value_bound : (e : List Value) (ts : List Term) → AllClosed cs ts → (k : ℕ) → value_of cs m e (bound_in ts k) ≡ argument (values cs m ts ++ e) k
  value_bound e [] c k = refl
  value_bound e (t ∷ ts) c zero = closed_value e t c.0
  value_bound e (t ∷ ts) c (suc k) = value_bound e ts c.1 k

  module _ (ts : List Term) (c : AllClosed cs ts) where
    mutual
      value_put : (e : List Value) (x : Term) → value_of cs m e (put_term ts x) ≡ value_of cs m (values cs m ts ++ e) x
      value_put e (Bound k) = value_bound e ts c k
      value_put e (App f xs) = ap (applied cs m f) (values_put e xs)

      values_put : (e : List Value) (xs : Terms) → values_of cs m e (put_terms ts xs) ≡ values_of cs m (values cs m ts ++ e) xs
      values_put e no_terms = refl
      values_put e (term_then x xs) = ap (λ v. v ∷ values_of cs m e (put_terms ts xs)) (value_put e x) ∙ ap (λ vs. value_of cs m (values cs m ts ++ e) x ∷ vs) (values_put e xs)

    longer : (e vs : List Value) → (values cs m ts ++ e) ++ vs ≡ values cs m ts ++ (e ++ vs)
    longer e vs = append_assoc (values cs m ts) e vs

    -- The truth of a body at terms is its truth at their values: an equation between the two facts.
    mutual
      pub True-put : (e : List Value) (f : Formula) → True cs m e (put ts f) ≡ True cs m (values cs m ts ++ e) f
      True-put e (Literal sign p xs) = ap (λ vs. Signed sign (Holds cs m p vs)) (values_put e xs)
      True-put e (And fs) = AllTrue-put e fs
      True-put e (Or fs) = ap (λ (X : Type 0). X → ⊥) (NoneTrue-put e fs)
      True-put e (Forall ss f) =
          ap (λ (P : List Value → Type 0). (vs : List Value) → AreOf ss vs → P vs)
          (fun_ext (λ vs. True-put (e ++ vs) f ∙ ap (λ w. True cs m w f) (sym (longer e vs))))
      True-put e (Exists ss f) =
          ap (λ (P : List Value → Type 0). ((vs : List Value) → AreOf ss vs → P vs → ⊥) → ⊥)
          (fun_ext (λ vs. True-put (e ++ vs) f ∙ ap (λ w. True cs m w f) (sym (longer e vs))))

      AllTrue-put : (e : List Value) (fs : Formulas) → AllTrue cs m e (put_all ts fs) ≡ AllTrue cs m (values cs m ts ++ e) fs
      AllTrue-put e no_formulas = refl
      AllTrue-put e (formula_then f fs) =
          ap (λ (X : Type 0). X × AllTrue cs m e (put_all ts fs)) (True-put e f)
          ∙ ap (λ (Y : Type 0). True cs m (values cs m ts ++ e) f × Y) (AllTrue-put e fs)

      NoneTrue-put : (e : List Value) (fs : Formulas) → NoneTrue cs m e (put_all ts fs) ≡ NoneTrue cs m (values cs m ts ++ e) fs
      NoneTrue-put e no_formulas = refl
      NoneTrue-put e (formula_then f fs) =
          ap (λ (X : Type 0). (X → ⊥) × NoneTrue cs m e (put_all ts fs)) (True-put e f)
          ∙ ap (λ (Y : Type 0). (True cs m (values cs m ts ++ e) f → ⊥) × Y) (NoneTrue-put e fs)

-- a body that is true of all values is true of these terms
pub instance_true : (cs : List ClassTree) (m : Structure) (ss : List Sort) (f : Formula) (ts : List Term) → have_sorts cs ss ts ≡ true → True cs m [] (Forall ss f) → True cs m [] (put ts f)
instance_true cs m ss f ts h t =
    subst (λ (X : Type 0). X) (sym (True-put cs m ts (AllClosed-sorts cs ss ts h) [] f)) (t (values cs m ts ++ []) (subst (AreOf ss) (sym (append-nil (values cs m ts))) (AreOf-values cs m ss ts h)))
