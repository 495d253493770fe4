-- Weighted sums of differences in which all parts cancel.
use Rattle.std.proofs.Common.{◌≡◌, ◌⊎◌, inl, inr, ⊎_elim, ℕ, zero, suc, ◌+◌, ◌*◌, ◌^◌, ◌<◌, ◌≤◌, ℤ, pos, negsuc, ◌+ℤ◌, ◌-ℤ◌, ◌*ℤ◌, ◌<ℤ◌, ◌≤ℤ◌, neg_ℤ, List, [], ◌∷◌, length, Bool, true, false, ◌&&◌, ◌||◌, Some, None, option_and_then, refl, sym, ◌∙◌, ap, subst, arith}
use Rattle.std.specs.Prelude.{unsigned_abs, nat_lt, if◌then◌else◌}
use Rattle.std.specs.List.{AllByRecursion}
use Rattle.std.specs.Int.{int_div_euclid, int_rem_euclid}
use Rattle.std.proofs.lemmas.Bool.{lt-ltb, ltb-true}
use Rattle.std.proofs.lemmas.Int.{ints}
use borrow.Author.Differences.{product_is}
use Rattle.ss_core.specs.Tree.{ClassTree}
use Rattle.ss_logic.specs.Terms.{Term}
use Rattle.ss_logic.specs.Formulas.{Formula}
use Rattle.ss_logic.specs.Equal.{same_term, equal_terms, same_term_equal}
use Rattle.ss_logic.specs.Shapes.{when, number, at_most}
use Rattle.ss_logic.proofs.Options.{and_then_some, if_some}
use Rattle.ss_logic.specs.Sums.{is_within, checked, plus_times, is_zero, LinearSum, number_sum, add_part, add_parts, add_times, SumFact, is_weight, add_weighted, weighted, divided, sum_term, bounded, sum_of}
use Rattle.ss_logic.proofs.NumbersInSums.{one_times, times_zero, zero_is, sum_zero}
use Rattle.ss_linear_rules.specs.Two.{IsFalse, is_one, is_less_one, parts_left, are_opposite, is_difference, fact_at, IsUnit}
use Rattle.ss_linear_rules.specs.Few.{one_at}
use Rattle.ss_linear_rules.specs.Valued.{parts_at, sum_at, fact_value, total, IsUsed}
use Rattle.ss_linear_rules.proofs.Values.{by_one, add_times_value}
use Rattle.ss_logic.proofs.Summed.{some_is}

either : (b : Bool) → (b ≡ true) ⊎ (b ≡ false)
either true = inl refl
either false = inr refl

-- ---- sizes

-- z is at most m in size
pub record IsIn (m : ℕ) (z : ℤ) : Type 0 where
  pub high : z ≤ℤ pos m
  pub low : pos 0 ≤ℤ (z +ℤ pos m)

is_in_more : (m n : ℕ) (z : ℤ) → m ≤ n → IsIn m z → IsIn n z
is_in_more m n z l h = record { high = omega (arith, ints); low = omega (arith, ints) }

is_in_sum : (m n : ℕ) (y z : ℤ) → IsIn m y → IsIn n z → IsIn (m + n) (y +ℤ z)
is_in_sum m n y z h k = record { high = omega (arith, ints); low = omega (arith, ints) }

within : (m : ℕ) (z : ℤ) → IsIn m z → m < 2 ^ 127 → is_within z ≡ true
within m (pos n) h l = lt-ltb n (2 ^ 127) (omega (arith, ints))
within m (negsuc n) h l = lt-ltb n (2 ^ 127) (omega (arith, ints))

pub checked_some : (m : ℕ) (z : ℤ) → IsIn m z → m < 2 ^ 127 → checked z ≡ Some z
checked_some m z h l = ap (λ b. when b z) (within m z h l)

plus_times_some : (a n b : ℤ) (m c : ℕ) → IsIn m a → IsIn c (n *ℤ b) → m + c < 2 ^ 127 → plus_times a n b ≡ Some (a +ℤ (n *ℤ b))
plus_times_some a n b m c h k l =
    ap (λ o. option_and_then (λ x. checked (a +ℤ x)) o) (checked_some c (n *ℤ b) k (omega arith))
    ∙ checked_some (m + c) (a +ℤ (n *ℤ b)) (is_in_sum m c a (n *ℤ b) h k) l

abbrev AreIn : ℕ → List (Term × ℤ) → Type 0
AreIn m [] = Unit {0}
AreIn m (p ∷ ps) = IsIn m p.1 × AreIn m ps

are_in_more : (m n : ℕ) (ps : List (Term × ℤ)) → m ≤ n → AreIn m ps → AreIn n ps
are_in_more m n [] l h = tt
are_in_more m n (p ∷ ps) l h = (is_in_more m n p.1 l h.0, are_in_more m n ps l h.1)

add_part_some : (n : ℤ) (q : Term × ℤ) (ps : List (Term × ℤ)) (m c : ℕ) → AreIn m ps → IsIn c (n *ℤ q.1) → m + c < 2 ^ 127 → (rs : List (Term × ℤ)) × (add_part n q ps ≡ Some rs) × AreIn (m + c) rs
add_part_some n q [] m c h k l =
    let zero_in : IsIn m (pos 0) = record { high = omega (arith, ints); low = omega (arith, ints) } in
    ((q.0, pos 0 +ℤ (n *ℤ q.1)) ∷ [], ap (λ o. option_and_then (λ x. Some ((q.0, x) ∷ [])) o) (plus_times_some (pos 0) n q.1 m c zero_in k l), (is_in_sum m c (pos 0) (n *ℤ q.1) zero_in k, tt))
add_part_some n q (p ∷ ps) m c h k l = by_test (add_part_some n q ps m c h.1 k l) (same_term p.0 q.0)
  where
    by_test : ((rs : List (Term × ℤ)) × (add_part n q ps ≡ Some rs) × AreIn (m + c) rs) → (t : Bool) →
        (rs : List (Term × ℤ)) × ((if t then option_and_then (λ x. Some ((p.0, x) ∷ ps)) (plus_times p.1 n q.1) else option_and_then (λ rest. Some (p ∷ rest)) (add_part n q ps)) ≡ Some rs) × AreIn (m + c) rs
    by_test further true = ((p.0, p.1 +ℤ (n *ℤ q.1)) ∷ ps, ap (λ o. option_and_then (λ x. Some ((p.0, x) ∷ ps)) o) (plus_times_some p.1 n q.1 m c h.0 k l), (is_in_sum m c p.1 (n *ℤ q.1) h.0 k, are_in_more m (m + c) ps (omega arith) h.1))
    by_test further false = (p ∷ further.0, ap (λ o. option_and_then (λ rest. Some (p ∷ rest)) o) further.1, (is_in_more m (m + c) p.1 (omega arith) h.0, further.2))

-- n times these parts have sizes that are together at most c
abbrev AreLight : ℤ → List (Term × ℤ) → ℕ → Type 0
AreLight n [] c = Unit {0}
AreLight n (q ∷ qs) c = (d : ℕ) × (e : ℕ) × (c ≡ d + e) × IsIn d (n *ℤ q.1) × AreLight n qs e

add_parts_some : (n : ℤ) (qs ps : List (Term × ℤ)) (m c : ℕ) → AreLight n qs c → AreIn m ps → m + c < 2 ^ 127 → (rs : List (Term × ℤ)) × (add_parts n qs ps ≡ Some rs) × AreIn (m + c) rs
add_parts_some n [] ps m c h k l = (ps, refl, are_in_more m (m + c) ps (omega arith) k)
add_parts_some n (q ∷ qs) ps m c h k l =
    let sum : c ≡ h.0 + h.1 = h.2 in
    let first = add_part_some n q ps m h.0 k h.3 (omega arith) in
    let rest = add_parts_some n qs first.0 (m + h.0) h.1 h.4 first.2 (omega arith) in
    (rest.0, ap (λ o. option_and_then (λ more. add_parts n qs more) o) first.1 ∙ rest.1, are_in_more (m + h.0 + h.1) (m + c) rest.0 (omega arith) rest.2)

-- ---- differences

pub one_is : (z : ℤ) → is_one z ≡ true → z ≡ pos 1
one_is (pos (suc zero)) h = refl
one_is (pos zero) h = let no : ⊥ = cc in absurd no
one_is (pos (suc (suc n))) h = let no : ⊥ = cc in absurd no
one_is (negsuc n) h = let no : ⊥ = cc in absurd no

pub less_one_is : (z : ℤ) → is_less_one z ≡ true → z ≡ negsuc 0
less_one_is (negsuc zero) h = refl
less_one_is (negsuc (suc n)) h = let no : ⊥ = cc in absurd no
less_one_is (pos n) h = let no : ⊥ = cc in absurd no

or_either : (a b : Bool) → (a || b) ≡ true → (a ≡ true) ⊎ (b ≡ true)
or_either true b h = inl refl
or_either false b h = inr h

and_both : (a b : Bool) → (a && b) ≡ true → (a ≡ true) × (b ≡ true)
and_both true b h = (refl, h)
and_both false b h = let no : ⊥ = cc in absurd no

unit_times : (w z : ℤ) → IsUnit w → (w *ℤ z ≡ z) ⊎ (w *ℤ z ≡ pos 0 -ℤ z)
unit_times w z u =
    ⊎_elim
    (λ e. inl (ap (λ x. x *ℤ z) e ∙ one_times z))
    (λ e. inr (ap (λ x. x *ℤ z) e ∙ omega (arith, ints, product_is (negsuc 0) z)))
    u

times_in : (w z : ℤ) (m : ℕ) → IsUnit w → IsIn m z → IsIn m (w *ℤ z)
times_in w z m u h =
    ⊎_elim
    (λ e. subst (λ x. IsIn m x) (sym e) h)
    (λ e. subst (λ x. IsIn m x) (sym e) (record { high = omega (arith, ints); low = omega (arith, ints) }))
    (unit_times w z u)

unit_in : (z : ℤ) → (z ≡ pos 1) ⊎ (z ≡ negsuc 0) → IsIn 1 z
unit_in z u =
    ⊎_elim
    (λ e. record { high = omega (arith, ints); low = omega (arith, ints) })
    (λ e. record { high = omega (arith, ints); low = omega (arith, ints) })
    u

unit_part : (z : ℤ) → (is_one z || is_less_one z) ≡ true → IsIn 1 z
unit_part z h = unit_in z (⊎_elim (λ a. inl (one_is z a)) (λ b. inr (less_one_is z b)) (or_either (is_one z) (is_less_one z) h))

two_parts : (y z : ℤ) → ((is_one y && is_less_one z) || (is_less_one y && is_one z)) ≡ true → IsIn 1 y × IsIn 1 z
two_parts y z h =
    ⊎_elim
    (λ a. let b = and_both (is_one y) (is_less_one z) a in (unit_in y (inl (one_is y b.0)), unit_in z (inr (less_one_is z b.1))))
    (λ a. let b = and_both (is_less_one y) (is_one z) a in (unit_in y (inr (less_one_is y b.0)), unit_in z (inl (one_is z b.1))))
    (or_either (is_one y && is_less_one z) (is_less_one y && is_one z) h)

apart_light : (w : ℤ) (ps : List (Term × ℤ)) → IsUnit w → are_opposite ps ≡ true → AreLight w ps 2
apart_light w [] u h = tt
apart_light w (p ∷ []) u h = (1, 1, refl, times_in w p.1 1 u (unit_part p.1 h), tt)
apart_light w (p ∷ q ∷ []) u h =
    let both = two_parts p.1 q.1 h in
    (1, 1, refl, times_in w p.1 1 u both.0, (1, 0, refl, times_in w q.1 1 u both.1, tt))
apart_light w (p ∷ q ∷ r ∷ ps) u h = let no : ⊥ = cc in absurd no

left_light : (w : ℤ) (ps : List (Term × ℤ)) (c : ℕ) → AreLight w (parts_left ps) c → AreLight w ps c
left_light w [] c h = tt
left_light w (p ∷ ps) c h = by_zero (λ e k. left_light w ps e k) (is_zero p.1) refl h
  where
    by_zero : ((e : ℕ) → AreLight w (parts_left ps) e → AreLight w ps e) → (t : Bool) → is_zero p.1 ≡ t → AreLight w (if t then parts_left ps else p ∷ parts_left ps) c → AreLight w (p ∷ ps) c
    by_zero further true e k =
        let none : w *ℤ p.1 ≡ pos 0 = ap (λ x. w *ℤ x) (zero_is p.1 e) ∙ times_zero w in
        (0, c, omega arith, subst (λ x. IsIn 0 x) (sym none) (record { high = omega (arith, ints); low = omega (arith, ints) }), further c k)
    by_zero further false e k = (k.0, k.1, k.2, k.3, further k.1 k.4)

small_in : (z : ℤ) → nat_lt (unsigned_abs z) (2 ^ 64) ≡ true → IsIn (2 ^ 64) z
small_in (pos n) h = let l : n < 2 ^ 64 = ltb-true n (2 ^ 64) h in record { high = omega (arith, ints); low = omega (arith, ints) }
small_in (negsuc n) h = let l : suc n < 2 ^ 64 = ltb-true (suc n) (2 ^ 64) h in record { high = omega (arith, ints); low = omega (arith, ints) }

-- ---- the sum is one

add_times_some : (a : LinearSum) (w : ℤ) (fact : SumFact) (m : ℕ) → IsUnit w → is_difference fact ≡ true → AreIn (2 * m) a.parts → IsIn (m * 2 ^ 64) a.constant → m + 1 < 2 ^ 63 → (b : LinearSum) × (add_times a w fact.sum ≡ Some b) × AreIn (2 * (m + 1)) b.parts × IsIn ((m + 1) * 2 ^ 64) b.constant
add_times_some a w fact m u d parts constant l =
    let both = and_both (are_opposite (parts_left fact.sum.parts)) (nat_lt (unsigned_abs fact.sum.constant) (2 ^ 64)) d in
    let ps = add_parts_some w fact.sum.parts a.parts (2 * m) 2 (left_light w fact.sum.parts 2 (apart_light w (parts_left fact.sum.parts) u both.0)) parts (omega arith) in
    let small : IsIn (2 ^ 64) (w *ℤ fact.sum.constant) = times_in w fact.sum.constant (2 ^ 64) u (small_in fact.sum.constant both.1) in
    let k : plus_times a.constant w fact.sum.constant ≡ Some (a.constant +ℤ (w *ℤ fact.sum.constant)) = plus_times_some a.constant w fact.sum.constant (m * 2 ^ 64) (2 ^ 64) constant small (omega arith) in (
      record { parts = ps.0; constant = a.constant +ℤ (w *ℤ fact.sum.constant) },
      ap (λ o. option_and_then (λ rs. option_and_then (λ c. Some (record { parts = rs; constant = c })) (plus_times a.constant w fact.sum.constant)) o) ps.1
          ∙ ap (λ o. option_and_then (λ c. Some (record { parts = ps.0; constant = c })) o) k,
      are_in_more (2 * m + 2) (2 * (m + 1)) ps.0 (omega arith) ps.2,
      is_in_more (m * 2 ^ 64 + 2 ^ 64) ((m + 1) * 2 ^ 64) (a.constant +ℤ (w *ℤ fact.sum.constant)) (omega arith) (is_in_sum (m * 2 ^ 64) (2 ^ 64) a.constant (w *ℤ fact.sum.constant) constant small),
    )

weighted_some : (cs : List ClassTree) (known : List Formula) (a : LinearSum) (ps : List (ℕ × ℤ)) (m : ℕ) → AllByRecursion (λ p. IsUsed cs known p) ps → AreIn (2 * m) a.parts → IsIn (m * 2 ^ 64) a.constant → m + length ps < 2 ^ 63 → (b : LinearSum) × (weighted cs known a ps ≡ Some b) × IsIn ((m + length ps) * 2 ^ 64) b.constant
weighted_some cs known a [] m all parts constant l = (a, refl, is_in_more (m * 2 ^ 64) ((m + 0) * 2 ^ 64) a.constant (omega arith) constant)
weighted_some cs known a (p ∷ ps) m all parts constant l =
    let u = all.0 in
    let one = add_times_some a p.1 u.fact m u.unit u.difference parts constant (omega arith) in
    let rest = weighted_some cs known one.0 ps (m + 1) all.1 one.2 one.3 (omega arith) in (
      rest.0,
      ap (λ o. option_and_then (λ fact. option_and_then (λ b. weighted cs known b ps) (add_weighted p.1 a fact)) o) u.is
          ∙ ap (λ t. option_and_then (λ b. weighted cs known b ps) (if t then add_times a p.1 u.fact.sum else None)) u.weighs
          ∙ ap (λ o. option_and_then (λ b. weighted cs known b ps) o) one.1
          ∙ rest.1,
      is_in_more ((m + 1 + length ps) * 2 ^ 64) ((m + suc (length ps)) * 2 ^ 64) rest.0.constant (omega arith) rest.2,
    )

-- ---- each part stands once

abbrev IsFresh : Term → List (Term × ℤ) → Type 0
IsFresh t [] = Unit {0}
IsFresh t (p ∷ ps) = (same_term p.0 t ≡ false) × IsFresh t ps

abbrev AreOnce : List (Term × ℤ) → Type 0
AreOnce [] = Unit {0}
AreOnce (p ∷ ps) = IsFresh p.0 ps × AreOnce ps

turned : (x y : Term) → same_term x y ≡ false → same_term y x ≡ false
turned x y h =
    ⊎_elim
    (λ t. let e : same_term x y ≡ true = same_term_equal x y (sym (equal_terms y x t)) in let no : ⊥ = cc in absurd no)
    (λ f. f)
    (either (same_term y x))

fresh_still : (t : Term) (n : ℤ) (q : Term × ℤ) (ps rs : List (Term × ℤ)) → same_term q.0 t ≡ false → IsFresh t ps → add_part n q ps ≡ Some rs → IsFresh t rs
fresh_still t n q [] rs d h e =
    let p = and_then_some (λ c. Some ((q.0, c) ∷ [])) (plus_times (pos 0) n q.1) rs e in
    subst (λ x. IsFresh t x) (some_is ((q.0, p.0) ∷ []) rs p.2) (d, tt)
fresh_still t n q (p ∷ ps) rs d h e = by_test (λ ss k. fresh_still t n q ps ss d h.1 k) (same_term p.0 q.0) e
  where
    by_test : ((ss : List (Term × ℤ)) → add_part n q ps ≡ Some ss → IsFresh t ss) → (b : Bool) →
        (if b then option_and_then (λ c. Some ((p.0, c) ∷ ps)) (plus_times p.1 n q.1) else option_and_then (λ rest. Some (p ∷ rest)) (add_part n q ps)) ≡ Some rs → IsFresh t rs
    by_test further true k =
        let c = and_then_some (λ c. Some ((p.0, c) ∷ ps)) (plus_times p.1 n q.1) rs k in
        subst (λ x. IsFresh t x) (some_is ((p.0, c.0) ∷ ps) rs c.2) (h.0, h.1)
    by_test further false k =
        let c = and_then_some (λ rest. Some (p ∷ rest)) (add_part n q ps) rs k in
        subst (λ x. IsFresh t x) (some_is (p ∷ c.0) rs c.2) (h.0, further c.0 c.1)

once_still : (n : ℤ) (q : Term × ℤ) (ps rs : List (Term × ℤ)) → AreOnce ps → add_part n q ps ≡ Some rs → AreOnce rs
once_still n q [] rs h e =
    let p = and_then_some (λ c. Some ((q.0, c) ∷ [])) (plus_times (pos 0) n q.1) rs e in
    subst (λ x. AreOnce x) (some_is ((q.0, p.0) ∷ []) rs p.2) (tt, tt)
once_still n q (p ∷ ps) rs h e = by_test (λ ss k. once_still n q ps ss h.1 k) (same_term p.0 q.0) refl e
  where
    by_test : ((ss : List (Term × ℤ)) → add_part n q ps ≡ Some ss → AreOnce ss) → (b : Bool) → same_term p.0 q.0 ≡ b →
        (if b then option_and_then (λ c. Some ((p.0, c) ∷ ps)) (plus_times p.1 n q.1) else option_and_then (λ rest. Some (p ∷ rest)) (add_part n q ps)) ≡ Some rs → AreOnce rs
    by_test further true d k =
        let c = and_then_some (λ c. Some ((p.0, c) ∷ ps)) (plus_times p.1 n q.1) rs k in
        subst (λ x. AreOnce x) (some_is ((p.0, c.0) ∷ ps) rs c.2) (h.0, h.1)
    by_test further false d k =
        let c = and_then_some (λ rest. Some (p ∷ rest)) (add_part n q ps) rs k in
        subst (λ x. AreOnce x) (some_is (p ∷ c.0) rs c.2) (fresh_still p.0 n q ps c.0 (turned p.0 q.0 d) h.0 c.1, further c.0 c.1)

once_all : (n : ℤ) (qs ps rs : List (Term × ℤ)) → AreOnce ps → add_parts n qs ps ≡ Some rs → AreOnce rs
once_all n [] ps rs h e = subst (λ x. AreOnce x) (some_is ps rs e) h
once_all n (q ∷ qs) ps rs h e =
    let p = and_then_some (λ more. add_parts n qs more) (add_part n q ps) rs e in
    once_all n qs p.0 rs (once_still n q ps p.0 h p.1) p.2

once_times : (a : LinearSum) (n : ℤ) (b r : LinearSum) → AreOnce a.parts → add_times a n b ≡ Some r → AreOnce r.parts
once_times a n b r h e =
    let p = and_then_some (λ ps. option_and_then (λ k. Some (record { parts = ps; constant = k })) (plus_times a.constant n b.constant)) (add_parts n b.parts a.parts) r e in
    let k = and_then_some (λ k. Some (record { parts = p.0; constant = k })) (plus_times a.constant n b.constant) r p.2 in
    subst (λ (x : LinearSum). AreOnce x.parts) (some_is (record { parts = p.0; constant = k.0 }) r k.2) (once_all n b.parts a.parts p.0 h p.1)

once_weighted : (cs : List ClassTree) (known : List Formula) (a : LinearSum) (ps : List (ℕ × ℤ)) (b : LinearSum) → AreOnce a.parts → weighted cs known a ps ≡ Some b → AreOnce b.parts
once_weighted cs known a [] b h e = subst (λ (x : LinearSum). AreOnce x.parts) (some_is a b e) h
once_weighted cs known a (p ∷ ps) b h e =
    let q = and_then_some (λ fact. option_and_then (λ c. weighted cs known c ps) (add_weighted p.1 a fact)) (fact_at cs known p.0) b e in
    let c = and_then_some (λ c. weighted cs known c ps) (add_weighted p.1 a q.0) b q.2 in
    let w = if_some (is_weight q.0.is_equality p.1) (add_times a p.1 q.0.sum) c.0 c.1 in
    once_weighted cs known c.0 ps b (once_times a p.1 q.0.sum c.0 h w.1) c.2

-- ---- what it comes to

pub weighted_value : (v : Term → ℤ) (cs : List ClassTree) (known : List Formula) (a : LinearSum) (ps : List (ℕ × ℤ)) (b : LinearSum) → weighted cs known a ps ≡ Some b → sum_at v b ≡ sum_at v a +ℤ total cs known v ps
weighted_value v cs known a [] b e = ap (sum_at v) (sym (some_is a b e)) ∙ sym (sum_zero (sum_at v a))
weighted_value v cs known a (p ∷ ps) b e =
    let q = and_then_some (λ fact. option_and_then (λ c. weighted cs known c ps) (add_weighted p.1 a fact)) (fact_at cs known p.0) b e in
    let c = and_then_some (λ c. weighted cs known c ps) (add_weighted p.1 a q.0) b q.2 in
    let w = if_some (is_weight q.0.is_equality p.1) (add_times a p.1 q.0.sum) c.0 c.1 in
    let rest : sum_at v b ≡ sum_at v c.0 +ℤ total cs known v ps = weighted_value v cs known c.0 ps b c.2 in
    let one : sum_at v c.0 ≡ sum_at v a +ℤ (p.1 *ℤ sum_at v q.0.sum) = add_times_value v a p.1 q.0.sum c.0 w.1 in
    let here : p.1 *ℤ fact_value v (fact_at cs known p.0) ≡ p.1 *ℤ sum_at v q.0.sum = ap (λ o. p.1 *ℤ fact_value v o) q.1 in
    omega (arith, ints)

-- ---- parts that cancel

others_none : (t : Term) (ps : List (Term × ℤ)) → IsFresh t ps → parts_at (one_at t) ps ≡ pos 0
others_none t [] h = refl
others_none t (p ∷ ps) h =
    let none : p.1 *ℤ one_at t p.0 ≡ pos 0 = ap (λ b. p.1 *ℤ (if b then pos 1 else pos 0)) h.0 ∙ times_zero p.1 in
    let rest = others_none t ps h.1 in
    omega (arith, ints)

zero_from : (z : ℤ) → z ≡ pos 0 → is_zero z ≡ true
zero_from z e = ap is_zero e

times_one : (z : ℤ) → z *ℤ pos 1 ≡ z
times_one z = omega (arith, ints, product_is z (pos 1))

zero_times_any : (z x : ℤ) → z ≡ pos 0 → z *ℤ x ≡ pos 0
zero_times_any z x e = ap (λ y. y *ℤ x) e ∙ omega (arith, ints, product_is (pos 0) x)

all_none : (ps : List (Term × ℤ)) → AreOnce ps → ((v : Term → ℤ) → parts_at v ps ≡ pos 0) → divided (pos 1) ps ≡ Some []
all_none [] h all = refl
all_none (p ∷ ps) h all =
    let own : p.1 *ℤ one_at p.0 p.0 ≡ p.1 = ap (λ b. p.1 *ℤ (if b then pos 1 else pos 0)) (same_term_equal p.0 p.0 refl) ∙ times_one p.1 in
    let rest : parts_at (one_at p.0) ps ≡ pos 0 = others_none p.0 ps h.0 in
    let whole : (p.1 *ℤ one_at p.0 p.0) +ℤ parts_at (one_at p.0) ps ≡ pos 0 = all (one_at p.0) in
    let none : p.1 ≡ pos 0 = omega (arith, ints) in
    ap (λ b. if b then divided (pos 1) ps else if is_zero (int_rem_euclid p.1 (pos 1)) then option_and_then (λ rest. Some ((p.0, int_div_euclid p.1 (pos 1)) ∷ rest)) (divided (pos 1) ps) else None) (zero_from p.1 none)
    ∙ all_none ps h.1 (λ v.
    let w : (p.1 *ℤ v p.0) +ℤ parts_at v ps ≡ pos 0 = all v in
    let z : p.1 *ℤ v p.0 ≡ pos 0 = zero_times_any p.1 (v p.0) none in
    omega (arith, ints))

pub no_value : (ps : List (Term × ℤ)) → parts_at (λ t. pos 0) ps ≡ pos 0
no_value [] = refl
no_value (p ∷ ps) = let z = times_zero p.1 in let rest = no_value ps in omega (arith, ints)

below : (k : ℤ) → pos 0 <ℤ k → neg_ℤ k <ℤ pos 0
below k h = omega (arith, ints)

-- differences of which the parts cancel, with a number above 0 left, are a contradiction
pub contradict : (cs : List ClassTree) (known : List Formula) (ps : List (ℕ × ℤ)) (k : ℤ) → AllByRecursion (λ p. IsUsed cs known p) ps → length ps < 2 ^ 63 → ((v : Term → ℤ) → total cs known v ps ≡ k) → pos 0 <ℤ k → (f : Formula) × (sum_of cs known (pos 1) ps ≡ Some f) × IsFalse f
contradict cs known ps k all few same above =
    let zero_in : IsIn (0 * 2 ^ 64) (pos 0) = record { high = omega (arith, ints); low = omega (arith, ints) } in
    let b = weighted_some cs known (number_sum (pos 0)) ps 0 all tt zero_in (omega arith) in
    let once : AreOnce b.0.parts = once_weighted cs known (number_sum (pos 0)) ps b.0 tt b.1 in
    let constant : b.0.constant ≡ k =
    (let w : sum_at (λ t. pos 0) b.0 ≡ pos 0 +ℤ total cs known (λ t. pos 0) ps = weighted_value (λ t. pos 0) cs known (number_sum (pos 0)) ps b.0 b.1 in
    let s : total cs known (λ t. pos 0) ps ≡ k = same (λ t. pos 0) in
    let z : parts_at (λ t. pos 0) b.0.parts ≡ pos 0 = no_value b.0.parts in
    let e : parts_at (λ t. pos 0) b.0.parts +ℤ b.0.constant ≡ pos 0 +ℤ total cs known (λ t. pos 0) ps = w in
    omega (arith, ints)) in
    let cancelled : divided (pos 1) b.0.parts ≡ Some [] = all_none b.0.parts once (λ v.
    let w : parts_at v b.0.parts +ℤ b.0.constant ≡ pos 0 +ℤ total cs known v ps = weighted_value v cs known (number_sum (pos 0)) ps b.0 b.1 in
    let s : total cs known v ps ≡ k = same v in
    omega (arith, ints)) in
    let size : IsIn ((0 + length ps) * 2 ^ 64) (neg_ℤ b.0.constant) = (let i = b.2 in record { high = omega (arith, ints); low = omega (arith, ints) }) in
    let negated : checked (neg_ℤ b.0.constant) ≡ Some (neg_ℤ b.0.constant) = checked_some ((0 + length ps) * 2 ^ 64) (neg_ℤ b.0.constant) size (omega arith) in
    let less : neg_ℤ b.0.constant <ℤ pos 0 = below b.0.constant (subst (λ x. pos 0 <ℤ x) (sym constant) above) in (
      at_most (number (pos 0)) (number (int_div_euclid (neg_ℤ b.0.constant) (pos 1))),
      ap (λ o. option_and_then (bounded (pos 1)) o) b.1
          ∙ ap (λ o. option_and_then (λ c. option_and_then (λ qs. Some (at_most (sum_term qs) (number (int_div_euclid c (pos 1))))) (divided (pos 1) b.0.parts)) o) negated
          ∙ ap (λ o. option_and_then (λ qs. Some (at_most (sum_term qs) (number (int_div_euclid (neg_ℤ b.0.constant) (pos 1))))) o) cancelled,
      (int_div_euclid (neg_ℤ b.0.constant) (pos 1), refl, subst (λ x. x <ℤ pos 0) (sym (by_one (neg_ℤ b.0.constant))) less),
    )
