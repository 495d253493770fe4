-- Each `exists` that is opened leaves fewer.
use Rattle.std.proofs.Common.{◌≡◌, ℕ, zero, suc, ◌+◌, ◌<◌, ◌≤◌, List, [], ◌∷◌, ◌++◌, map, Bool, true, false, refl, sym, ◌∙◌, ap, subst, arith, Option, Some, None, cond, inl, inr, ⊎_elim, if◌then◌else◌}
use Rattle.std.specs.Prelude.{◌⊎◌, flat_map, sum_by, find}
use Rattle.std.specs.List.{list_any}
use Rattle.std.proofs.lemmas.Bool.{false≢true}
use Rattle.std.proofs.lemmas.List.Sums.{sum_by-cons}
use Rattle.ss_logic.specs.declared.Sort.{Sort}
use Rattle.ss_logic.specs.Terms.{Term}
use Rattle.ss_logic.specs.Formulas.{Formula, Formulas, Literal, And, Or, Forall, Exists, no_formulas, formula_then, put, put_all}
use Rattle.ss_logic.specs.Equal.{same_formula, equal_formulas, same_formula_equal}
use Rattle.ss_logic.specs.Occurring.{quantified, quantified_in, all_quantified_in, with_formula, with_formulas}
use Rattle.ss_logic.specs.Opened.{is_exists, replaced, all_replaced, exists_count, all_exists_count, fresh_constants, opened_from, with_opened}
use Rattle.ss_rules_opened.specs.Opening.{used_after, list_after}

-- ---- terms in place of bound names leave the number

mutual
  put_count : (ts : List Term) (f : Formula) → exists_count (put ts f) ≡ exists_count f
  put_count ts (Literal sign p xs) = refl
  put_count ts (And fs) = puts_count ts fs
  put_count ts (Or fs) = puts_count ts fs
  put_count ts (Forall ss f) = put_count ts f
  put_count ts (Exists ss f) = ap suc (put_count ts f)

  puts_count : (ts : List Term) (fs : Formulas) → all_exists_count (put_all ts fs) ≡ all_exists_count fs
  puts_count ts no_formulas = refl
  puts_count ts (formula_then f fs) = let e = put_count ts f in let r = puts_count ts fs in omega (arith, e, r)

-- ---- one that stands in a list

abbrev pub Occurs : Formula → List Formula → Type 0
Occurs x [] = ⊥
Occurs x (y ∷ ys) = (x ≡ y) ⊎ Occurs x ys

occurs-append : (x : Formula) (xs ys : List Formula) → Occurs x (xs ++ ys) → Occurs x xs ⊎ Occurs x ys
occurs-append x [] ys h = inr h
occurs-append x (y ∷ xs) ys (inl e) = inl (inl e)
occurs-append x (y ∷ xs) ys (inr h) = ⊎_elim (λ (k : Occurs x xs). inl (inr k)) (λ (k : Occurs x ys). inr k) (occurs-append x xs ys h)

occurs-with_one : (x : Formula) (found : List Formula) (y : Formula) (r : Bool) → Occurs x (if r then found else found ++ y ∷ []) → Occurs x found ⊎ (x ≡ y)
occurs-with_one x found y true h = inl h
occurs-with_one x found y false h = ⊎_elim (λ (k : Occurs x found). inl k) (λ (k : Occurs x (y ∷ [])). inr (only k)) (occurs-append x found (y ∷ []) h)
  where
    only : Occurs x (y ∷ []) → x ≡ y
    only (inl e) = e
    only (inr k) = absurd k

occurs-with : (x : Formula) (found ys : List Formula) → Occurs x (with_formulas found ys) → Occurs x found ⊎ Occurs x ys
occurs-with x found [] h = inl h
occurs-with x found (y ∷ ys) h = ⊎_elim
    (λ (k : Occurs x (with_formula found y)). ⊎_elim (λ (j : Occurs x found). inl j) (λ (e : x ≡ y). inr (inl e)) (occurs-with_one x found y (list_any (same_formula y) found) k))
    (λ (k : Occurs x ys). inr (inr k))
    (occurs-with x (with_formula found y) ys h)

found_is : (p : Formula → Bool) (xs : List Formula) (x : Formula) → find p xs ≡ Some x → p x ≡ true
found_is p [] x e = absurd (none x e)
  where
    none : (x : Formula) → None ≡ Some x → ⊥
    none x e = cc
found_is p (y ∷ xs) x e = by (p y) refl e (found_is p xs x)
  where
    by : (r : Bool) → p y ≡ r → cond r (Some y) (find p xs) ≡ Some x → (find p xs ≡ Some x → p x ≡ true) → p x ≡ true
    by true is e later = let same : y ≡ x = cc in ap p (sym same) ∙ is
    by false is e later = later e

found_occurs : (p : Formula → Bool) (xs : List Formula) (x : Formula) → find p xs ≡ Some x → Occurs x xs
found_occurs p [] x e = absurd (none x e)
  where
    none : (x : Formula) → None ≡ Some x → ⊥
    none x e = cc
found_occurs p (y ∷ xs) x e = by (p y) e (found_occurs p xs x)
  where
    by : (r : Bool) → cond r (Some y) (find p xs) ≡ Some x → (find p xs ≡ Some x → Occurs x xs) → Occurs x (y ∷ xs)
    by true e later = let same : x ≡ y = cc in inl same
    by false e later = inr (later e)

-- ---- what was replaced

less_first : (a b c d : ℕ) → a < b → c ≤ d → a + c < b + d
less_first a b c d h k = omega arith

less_second : (a b c d : ℕ) → a ≤ b → c < d → a + c < b + d
less_second a b c d h k = omega arith

module _ (ss : List Sort) (h g : Formula) (count : exists_count g ≡ exists_count h) where
  abbrev whole : Formula
  whole = Exists ss h

  instead_exists : (rs : List Sort) (f : Formula) (r : Bool) → same_formula whole (Exists rs f) ≡ r → exists_count (if r then g else Exists rs f) ≤ suc (exists_count f)
  instead_exists rs f true e = let same = ap exists_count (equal_formulas whole (Exists rs f) e) in omega (arith, same, count)
  instead_exists rs f false e = omega arith

  instead_forall : (rs : List Sort) (f : Formula) (r : Bool) → same_formula whole (Forall rs f) ≡ r → exists_count (if r then g else Forall rs f) ≤ exists_count f
  instead_forall rs f true e = absurd (other (equal_formulas whole (Forall rs f) e))
    where
      other : Exists ss h ≡ Forall rs f → ⊥
      other e = cc
  instead_forall rs f false e = omega arith

  mutual
    no_more : (f : Formula) → exists_count (replaced whole g f) ≤ exists_count f
    no_more (Literal sign p ts) = omega arith
    no_more (And fs) = no_more_in fs
    no_more (Or fs) = no_more_in fs
    no_more (Forall rs f) = instead_forall rs f (same_formula whole (Forall rs f)) refl
    no_more (Exists rs f) = instead_exists rs f (same_formula whole (Exists rs f)) refl

    no_more_in : (fs : Formulas) → all_exists_count (all_replaced whole g fs) ≤ all_exists_count fs
    no_more_in no_formulas = omega arith
    no_more_in (formula_then f fs) = let a = no_more f in let b = no_more_in fs in omega (arith, a, b)

  the_same : (rs : List Sort) (f : Formula) (r : Bool) → r ≡ true → whole ≡ Exists rs f → exists_count (if r then g else Exists rs f) < suc (exists_count f)
  the_same rs f true e is = let same = ap exists_count is in omega (arith, same, count)
  the_same rs f false e is = absurd (false≢true e)

  mutual
    fewer : (f : Formula) → Occurs whole (quantified_in f) → exists_count (replaced whole g f) < exists_count f
    fewer (Literal sign p ts) k = absurd k
    fewer (And fs) k = fewer_in fs k
    fewer (Or fs) k = fewer_in fs k
    fewer (Forall rs f) (inl e) = absurd (other e)
      where
        other : Exists ss h ≡ Forall rs f → ⊥
        other e = cc
    fewer (Forall rs f) (inr k) = absurd k
    fewer (Exists rs f) (inl e) = the_same rs f (same_formula whole (Exists rs f)) (same_formula_equal whole (Exists rs f) e) e
    fewer (Exists rs f) (inr k) = absurd k

    fewer_in : (fs : Formulas) → Occurs whole (all_quantified_in fs) → all_exists_count (all_replaced whole g fs) < all_exists_count fs
    fewer_in no_formulas k = absurd k
    fewer_in (formula_then f fs) k = ⊎_elim
        (λ (j : Occurs whole (quantified_in f)). let a = fewer f j in let b = no_more_in fs in less_first (exists_count (replaced whole g f)) (exists_count f) (all_exists_count (all_replaced whole g fs)) (all_exists_count fs) a b)
        (λ (j : Occurs whole (all_quantified_in fs)). let a = no_more f in let b = fewer_in fs j in less_second (exists_count (replaced whole g f)) (exists_count f) (all_exists_count (all_replaced whole g fs)) (all_exists_count fs) a b)
        (occurs-append whole (quantified_in f) (all_quantified_in fs) k)

  sum_no_more : (fs : List Formula) → sum_by exists_count (map (replaced whole g) fs) ≤ sum_by exists_count fs
  sum_no_more [] = omega arith
  sum_no_more (f ∷ fs) =
      let a = no_more f in
      let b = sum_no_more fs in
      let s = sum_by-cons exists_count (replaced whole g f) (map (replaced whole g) fs) in
      let t = sum_by-cons exists_count f fs in
      omega (arith, a, b, s, t)

  pub sum_fewer : (fs : List Formula) → Occurs whole (flat_map quantified_in fs) → sum_by exists_count (map (replaced whole g) fs) < sum_by exists_count fs
  sum_fewer [] k = absurd k
  sum_fewer (f ∷ fs) k =
      let s = sum_by-cons exists_count (replaced whole g f) (map (replaced whole g) fs) in
      let t = sum_by-cons exists_count f fs in
      let less : exists_count (replaced whole g f) + sum_by exists_count (map (replaced whole g) fs) < exists_count f + sum_by exists_count fs =
      ⊎_elim
      (λ (j : Occurs whole (quantified_in f)). let a = fewer f j in let b = sum_no_more fs in less_first (exists_count (replaced whole g f)) (exists_count f) (sum_by exists_count (map (replaced whole g) fs)) (sum_by exists_count fs) a b)
      (λ (j : Occurs whole (flat_map quantified_in fs)). let a = no_more f in let b = sum_fewer fs j in less_second (exists_count (replaced whole g f)) (exists_count f) (sum_by exists_count (map (replaced whole g) fs)) (sum_by exists_count fs) a b)
      (occurs-append whole (quantified_in f) (flat_map quantified_in fs) k) in
      omega (arith, less, s, t)

-- ---- the first that is found

occurs_there : (fs : List Formula) (x : Formula) → find is_exists (quantified fs) ≡ Some x → Occurs x (flat_map quantified_in fs)
occurs_there fs x e = ⊎_elim (λ (k : Occurs x []). absurd k) (λ (k : Occurs x (flat_map quantified_in fs)). k) (occurs-with x [] (flat_map quantified_in fs) (found_occurs is_exists (quantified fs) x e))

pub opened_fewer : (used : List Term) (fs : List Formula) (x : Formula) → find is_exists (quantified fs) ≡ Some x → sum_by exists_count (list_after x used fs) < sum_by exists_count fs
opened_fewer used fs (Exists ss h) e = sum_fewer ss h (put (fresh_constants ss used) h) (put_count (fresh_constants ss used) h) fs (occurs_there fs (Exists ss h) e)
opened_fewer used fs (Literal sign p ts) e = absurd (false≢true (found_is is_exists (quantified fs) (Literal sign p ts) e))
opened_fewer used fs (And gs) e = absurd (false≢true (found_is is_exists (quantified fs) (And gs) e))
opened_fewer used fs (Or gs) e = absurd (false≢true (found_is is_exists (quantified fs) (Or gs) e))
opened_fewer used fs (Forall ss h) e = absurd (false≢true (found_is is_exists (quantified fs) (Forall ss h) e))

again : (n : ℕ) (used : List Term) (fs : List Formula) (x : Formula) → is_exists x ≡ true → with_opened used fs (opened_from n) (Some x) ≡ opened_from n (used_after x used) (list_after x used fs)
again n used fs (Exists ss h) e = refl
again n used fs (Literal sign p ts) e = absurd (false≢true e)
again n used fs (And gs) e = absurd (false≢true e)
again n used fs (Or gs) e = absurd (false≢true e)
again n used fs (Forall ss h) e = absurd (false≢true e)

opens : (n : ℕ) (used : List Term) (fs : List Formula) (x : Formula) → find is_exists (quantified fs) ≡ Some x → opened_from (suc n) used fs ≡ opened_from n (used_after x used) (list_after x used fs)
opens n used fs x e = ap (with_opened used fs (opened_from n)) e ∙ again n used fs x (found_is is_exists (quantified fs) x e)

none_opens : (n : ℕ) (used : List Term) (fs : List Formula) → find is_exists (quantified fs) ≡ None → opened_from n used fs ≡ fs
none_opens zero used fs e = refl
none_opens (suc n) used fs e = ap (with_opened used fs (opened_from n)) e

none_found : (used : List Term) (fs : List Formula) → sum_by exists_count fs ≤ 0 → (o : Option Formula) → find is_exists (quantified fs) ≡ o → o ≡ None
none_found used fs h None e = refl
none_found used fs h (Some x) e = let f = opened_fewer used fs x e in absurd (omega (arith, h, f))

-- more steps than there are `exists` change nothing
enough : (n m : ℕ) (used : List Term) (fs : List Formula) → sum_by exists_count fs ≤ n → sum_by exists_count fs ≤ m → opened_from n used fs ≡ opened_from m used fs
enough zero m used fs h k = sym (none_opens m used fs (none_found used fs h (find is_exists (quantified fs)) refl))
enough (suc n) zero used fs h k = none_opens (suc n) used fs (none_found used fs k (find is_exists (quantified fs)) refl)
enough (suc n) (suc m) used fs h k =
    by (find is_exists (quantified fs)) refl
    (λ y e. let f = opened_fewer used fs y e in enough n m (used_after y used) (list_after y used fs) (omega (arith, f, h)) (omega (arith, f, k)))
  where
    by : (o : Option Formula) → find is_exists (quantified fs) ≡ o → ((y : Formula) → find is_exists (quantified fs) ≡ Some y → opened_from n (used_after y used) (list_after y used fs) ≡ opened_from m (used_after y used) (list_after y used fs)) →
        opened_from (suc n) used fs ≡ opened_from (suc m) used fs
    by None e later = none_opens (suc n) used fs e ∙ sym (none_opens (suc m) used fs e)
    by (Some y) e later = opens n used fs y e ∙ later y e ∙ sym (opens m used fs y e)

-- ---- as code does it

-- the list when each `exists` is opened
abbrev pub all_opened : List Term → List Formula → List Formula
all_opened used fs = opened_from (sum_by exists_count fs) used fs

pub opened_one : (used : List Term) (fs : List Formula) (x : Formula) → find is_exists (quantified fs) ≡ Some x → all_opened (used_after x used) (list_after x used fs) ≡ all_opened used fs
opened_one used fs x e =
    let f = opened_fewer used fs x e in
    enough (sum_by exists_count (list_after x used fs)) (sum_by exists_count fs) (used_after x used) (list_after x used fs) (omega arith) (omega (arith, f))
    ∙ sym (opens (sum_by exists_count fs) used fs x e)
    ∙ enough (suc (sum_by exists_count fs)) (sum_by exists_count fs) used fs (omega arith) (omega arith)

pub opened_none : (used : List Term) (fs : List Formula) → find is_exists (quantified fs) ≡ None → fs ≡ all_opened used fs
opened_none used fs e = sym (none_opens (sum_by exists_count fs) used fs e)
