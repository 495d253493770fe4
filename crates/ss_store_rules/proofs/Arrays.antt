-- Array classes, and the levels of a class that isn't declared.
use Rattle.std.proofs.Common.{◌≡◌, ◌≢◌, ℕ, ◌+◌, ◌-◌, ◌%◌, ◌<◌, ◌≤◌, List, Bool, true, false, ◌&&◌, ◌||◌, eqb, leb, refl, sym, ◌∙◌, subst, arith, inl, inr, ◌⊎◌, ⊎_elim}
use Rattle.std.specs.Prelude.{nat_le, ◌==◌, length, ◌*◌}
use Rattle.std.proofs.lemmas.Bool.{cases_eq, ne_eqb, eqb-true, leb-true, lt-leb, or_cases, and_parts, false_from_ne_true}
use Rattle.ss_core.specs.Tree.{ClassTree}
use Rattle.ss_core.specs.Chain.{is_declared, above, below, IsChain}
use Rattle.ss_core.proofs.Chains.{below_up, object_below}
use Rattle.ss_store_rules.specs.Changes.{is_array}

-- the numbers of declared classes are even, from 4 on
pub declared_even : (cs : List ClassTree) (t : ℕ) → is_declared cs t ≡ true → (4 ≤ t) × (t % 2 ≡ 0)
declared_even cs t h =
    let p = and_parts (nat_le 4 t && t % 2 == 0) (nat_le (t + 1) (4 + 2 * length cs)) h in
    let q = and_parts (nat_le 4 t) (t % 2 == 0) p.0 in
    (leb-true 4 t q.0, eqb-true (t % 2) 0 q.1)

-- those of arrays are below 4 or odd
pub array_odd : (cs : List ClassTree) (t : ℕ) → is_array cs t ≡ true → (t < 4) ⊎ (t % 2 ≡ 1)
array_odd cs t h =
    ⊎_elim
    (λ r. ⊎_elim
    (λ r'. ⊎_elim
    (λ a. let e = eqb-true t 1 a in inl (omega (arith, e)))
    (λ a. let e = eqb-true t 2 a in inl (omega (arith, e)))
    (or_cases (eqb t 1) (eqb t 2) r'))
    (λ a. let e = eqb-true t 3 a in inl (omega (arith, e)))
    (or_cases (eqb t 1 || eqb t 2) (eqb t 3) r))
    (λ d. let e = declared_even cs (t - 1) d in let low = e.0 in let even = e.1 in inr (omega (arith, low, even)))
    (or_cases (eqb t 1 || eqb t 2 || eqb t 3) (is_declared cs (t - 1)) h)

pub not_both : (cs : List ClassTree) (t : ℕ) → is_declared cs t ≡ true → is_array cs t ≡ true → ⊥
not_both cs t d a = let e = declared_even cs t d in let low = e.0 in let even = e.1 in ⊎_elim (λ l. omega (arith, low, l)) (λ odd. omega (arith, even, odd)) (array_odd cs t a)

pub array_not_declared : (cs : List ClassTree) (t : ℕ) → is_array cs t ≡ true → is_declared cs t ≡ false
array_not_declared cs t a = false_from_ne_true _ (λ d. not_both cs t d a)

pub declared_not_array : (cs : List ClassTree) (t : ℕ) → is_declared cs t ≡ true → is_array cs t ≡ false
declared_not_array cs t d = false_from_ne_true _ (λ a. not_both cs t d a)

pub declared_not_object : (cs : List ClassTree) (t : ℕ) → is_declared cs t ≡ true → t ≢ 0
declared_not_object cs t d z = let low = (declared_even cs t d).0 in omega (arith, low, z)

-- above an array is `object`
pub above_array : (cs : List ClassTree) (t : ℕ) → is_array cs t ≡ true → above cs t ≡ 0
above_array cs t a =
    ⊎_elim
    (λ l. rw (lt-leb 4 t l) refl)
    (λ odd. let n : t % 2 ≡ 0 → ⊥ = λ e. omega (arith, odd, e) in
    let test : (nat_le 4 t && t % 2 == 0) ≡ false = rw (ne_eqb (t % 2) 0 n) (and_false (leb 4 t)) in
    rw test refl)
    (array_odd cs t a)
  where
    and_false : (b : Bool) → (b && false) ≡ false
    and_false true = refl
    and_false false = refl

-- the levels of an array are its class and `object`
pub below_array : (cs : List ClassTree) → IsChain cs → (t u : ℕ) → is_array cs t ≡ true → below cs t u ≡ true → (u ≡ t) ⊎ (u ≡ 0)
below_array cs h t u a b =
    ⊎_elim
    (λ z. inr (object_below cs u (subst (λ n. below cs n u ≡ true) z b)))
    (λ nz. ⊎_elim
    (λ e. inl (sym (eqb-true t u e)))
    (λ e. inr (object_below cs u (subst (λ n. below cs n u ≡ true) (above_array cs t a) e)))
    (or_cases (eqb t u) (below cs (above cs t) u) (sym (below_up cs h t u nz) ∙ b)))
    (cases_eq t 0)
