-- Classes of arrays, by what their numbers stand for.
use Rattle.std.proofs.Common.{◌≡◌, ℕ, sym, subst, ap, ◌∙◌, ⊎_elim, ◌+◌, ◌-◌, ◌*◌, ◌%◌, ◌<◌, ◌≤◌, length, List, Bool, true, false, ◌&&◌, ◌||◌, refl, arith}
use Rattle.std.specs.Prelude.{if◌then◌else◌, nat_le, ◌==◌}
use Rattle.std.proofs.lemmas.Bool.{and_from, and_left, and_right, or_from, or_right, cases_lt, lt-ltb, le-ltb, le-leb, lt-leb, eq-eqb, ne_eqb}
use Rattle.ss_core.specs.Tree.{ClassTree}
use Rattle.ss_core.specs.Chain.{is_declared, is_class}
use Rattle.ss_core.specs.Kinds.{is_array_number}
use Rattle.ss_store_rules.specs.Changes.{is_array}

module _ (cs : List ClassTree) where
  -- the numbers below those of declared classes
  array_below : (k : ℕ) → k < 4 → is_array_number k ≡ true → (is_class cs k && is_array_number k) ≡ true
  array_below k l h = and_from (is_class cs k) (is_array_number k) (lt-ltb k (4 + 2 * length cs) (omega (arith, l))) h

  below : (t : ℕ) → t < 4 → (is_class cs t && is_array_number t) ≡ is_array cs t
  below t l = ⊎_elim
      (λ (a : t < 1). at 0 (omega (arith, a)) (and_right (is_class cs 0) (is_array_number 0) refl))
      (λ (a : 1 ≤ t). ⊎_elim
      (λ (b : t < 2). at 1 (omega (arith, a, b)) (array_below 1 (omega arith) refl))
      (λ (b : 2 ≤ t). ⊎_elim
      (λ (d : t < 3). at 2 (omega (arith, b, d)) (array_below 2 (omega arith) refl))
      (λ (d : 3 ≤ t). at 3 (omega (arith, l, d)) (array_below 3 (omega arith) refl))
      (cases_lt t 3))
      (cases_lt t 2))
      (cases_lt t 1)
    where
      at : (k : ℕ) → t ≡ k → (is_class cs k && is_array_number k) ≡ is_array cs k → (is_class cs t && is_array_number t) ≡ is_array cs t
      at k e h = subst (λ n. (is_class cs n && is_array_number n) ≡ is_array cs n) (sym e) h

  -- the number below is that of a declared class
  abbrev front : ℕ → Bool
  front t = nat_le 4 (t - 1) && (t - 1) % 2 == 0

  abbrev last : ℕ → Bool
  last t = nat_le (t - 1 + 1) (4 + 2 * length cs)

  no_basic : (t : ℕ) → 4 ≤ t → (t == 1 || t == 2 || t == 3) ≡ false
  no_basic t l = or_from (t == 1 || t == 2) (t == 3) (or_from (t == 1) (t == 2) (ne_eqb t 1 (λ e. omega (arith, l, e))) (ne_eqb t 2 (λ e. omega (arith, l, e)))) (ne_eqb t 3 (λ e. omega (arith, l, e)))

  number_is : (t : ℕ) → 4 ≤ t → is_array_number t ≡ (t % 2 == 1)
  number_is t l = ap (λ b. if b then t % 2 == 1 else nat_le 1 t) (le-leb 4 t l)

  even : (t : ℕ) → 4 ≤ t → t % 2 ≡ 0 → (is_class cs t && is_array_number t) ≡ is_array cs t
  even t l z =
      let left : (is_class cs t && is_array_number t) ≡ false =
      and_right (is_class cs t) (is_array_number t) (number_is t l ∙ ne_eqb (t % 2) 1 (λ e. omega (arith, z, e))) in
      let right : is_array cs t ≡ false =
      or_from (t == 1 || t == 2 || t == 3) (is_declared cs (t - 1)) (no_basic t l) (and_left (front t) (last t) (and_right (nat_le 4 (t - 1)) ((t - 1) % 2 == 0) (ne_eqb ((t - 1) % 2) 0 (λ e. omega (arith, l, z, e))))) in
      left ∙ sym right

  inside : (t : ℕ) → 4 ≤ t → t % 2 ≡ 1 → t < 4 + 2 * length cs → (is_class cs t && is_array_number t) ≡ is_array cs t
  inside t l o i =
      let left : (is_class cs t && is_array_number t) ≡ true =
      and_from (is_class cs t) (is_array_number t) (lt-ltb t (4 + 2 * length cs) i) (number_is t l ∙ eq-eqb (t % 2) 1 o) in
      let right : is_array cs t ≡ true =
      or_right (t == 1 || t == 2 || t == 3) (is_declared cs (t - 1)) (and_from (front t) (last t) (and_from (nat_le 4 (t - 1)) ((t - 1) % 2 == 0) (le-leb 4 (t - 1) (omega (arith, l, o))) (eq-eqb ((t - 1) % 2) 0 (omega (arith, l, o)))) (le-leb (t - 1 + 1) (4 + 2 * length cs) (omega (arith, l, i)))) in
      left ∙ sym right

  outside : (t : ℕ) → 4 ≤ t → t % 2 ≡ 1 → 4 + 2 * length cs ≤ t → (is_class cs t && is_array_number t) ≡ is_array cs t
  outside t l o i =
      let left : (is_class cs t && is_array_number t) ≡ false = and_left (is_class cs t) (is_array_number t) (le-ltb t (4 + 2 * length cs) i) in
      let right : is_array cs t ≡ false = or_from (t == 1 || t == 2 || t == 3) (is_declared cs (t - 1)) (no_basic t l) (and_right (front t) (last t) (lt-leb (t - 1 + 1) (4 + 2 * length cs) (omega (arith, l, o, i)))) in
      left ∙ sym right

  pub arrays_by_number : (t : ℕ) → (is_class cs t && is_array_number t) ≡ is_array cs t
  arrays_by_number t = ⊎_elim (below t)
      (λ (l : 4 ≤ t). ⊎_elim (λ (z : t % 2 < 1). even t l (omega (arith, z)))
      (λ (o : 1 ≤ t % 2). ⊎_elim (inside t l (omega (arith, o))) (outside t l (omega (arith, o))) (cases_lt t (4 + 2 * length cs)))
      (cases_lt (t % 2) 1))
      (cases_lt t 4)
