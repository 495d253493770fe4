-- Whole numbers, as sums speak of them.
use Rattle.std.proofs.Common.{◌≡◌, ℕ, zero, suc, ◌+◌, ◌*◌, ◌/◌, ◌%◌, ◌-◌, ◌<◌, ◌≤◌, ℤ, pos, negsuc, ◌+ℤ◌, ◌-ℤ◌, ◌*ℤ◌, neg_ℤ, true, false, refl, ◌∙◌, ap, arith, mul-le-mul}
use Rattle.std.specs.Prelude.{int_le}
use Rattle.std.specs.Int.{int_div_euclid, int_rem_euclid, is_positive}
use Rattle.std.proofs.Math.IntN.{*ℤ_comm}
use Rattle.std.proofs.lemmas.Bool.{false≢true, ltb-true}
use Rattle.std.proofs.lemmas.Int.{ints, by_lt_z}
use borrow.Author.Differences.{up, down, product_is, sum_is_lem, neg_is, same_in}
use Rattle.ss_logic.proofs.Numbers.{le_from}
use Rattle.ss_logic.specs.Sums.{is_zero}

times : (k m n : ℕ) → m ≡ n → m * k ≡ n * k
times k m n e = ap (λ x. x * k) e

pub product_assoc : (a b c : ℤ) → (a *ℤ b) *ℤ c ≡ a *ℤ (b *ℤ c)
product_assoc a b c =
    let ab = product_is a b in
    let bc = product_is b c in
    let left = product_is (a *ℤ b) c in
    let right = product_is a (b *ℤ c) in
    let ups : up ((a *ℤ b) *ℤ c) ≡ up (a *ℤ (b *ℤ c)) =
    omega (arith, left, right, times (up c) _ _ ab.0, times (down c) _ _ ab.1, times (up a) _ _ bc.0, times (down a) _ _ bc.1) in
    let downs : down ((a *ℤ b) *ℤ c) ≡ down (a *ℤ (b *ℤ c)) =
    omega (arith, left, right, times (down c) _ _ ab.0, times (up c) _ _ ab.1, times (down a) _ _ bc.0, times (up a) _ _ bc.1) in
    same_in _ _ (omega (arith, ups, downs))

pub sum_product : (a b c : ℤ) → (a +ℤ b) *ℤ c ≡ (a *ℤ c) +ℤ (b *ℤ c)
sum_product a b c =
    let s = sum_is_lem a b in
    let whole = product_is (a +ℤ b) c in
    let first = product_is a c in
    let second = product_is b c in
    let both = sum_is_lem (a *ℤ c) (b *ℤ c) in
    same_in _ _ (omega (arith, whole, first, second, both, times (up c) _ _ s, times (down c) _ _ s))

pub product_sum : (a b c : ℤ) → a *ℤ (b +ℤ c) ≡ (a *ℤ b) +ℤ (a *ℤ c)
product_sum a b c = *ℤ_comm a (b +ℤ c) ∙ sum_product b c a ∙ ap (λ x. x +ℤ (c *ℤ a)) (*ℤ_comm b a) ∙ ap (λ x. (a *ℤ b) +ℤ x) (*ℤ_comm c a)

pub times_zero : (a : ℤ) → a *ℤ pos 0 ≡ pos 0
times_zero a = omega (arith, ints, product_is a (pos 0))

pub one_times : (a : ℤ) → pos 1 *ℤ a ≡ a
one_times a = omega (arith, ints, product_is (pos 1) a)

pub less_times : (x a : ℤ) → x +ℤ (negsuc 0 *ℤ a) ≡ x -ℤ a
less_times x a = omega (arith, ints, product_is (negsuc 0) a)

-- c is a and n times b
pub coefficient_more : (a n b c v : ℤ) → c ≡ a +ℤ (n *ℤ b) → c *ℤ v ≡ (a *ℤ v) +ℤ (n *ℤ (b *ℤ v))
coefficient_more a n b c v e = ap (λ x. x *ℤ v) e ∙ sum_product a (n *ℤ b) v ∙ ap (λ x. (a *ℤ v) +ℤ x) (product_assoc n b v)

-- ---- linear steps

pub sum_zero : (a : ℤ) → a +ℤ pos 0 ≡ a
sum_zero a = omega (arith, ints)

pub zero_sum : (a : ℤ) → pos 0 +ℤ a ≡ a
zero_sum a = omega (arith, ints)

pub first_more : (w x y r : ℤ) → w ≡ x +ℤ y → w +ℤ r ≡ (x +ℤ r) +ℤ y
first_more w x y r e = omega (arith, ints)

pub rest_more : (x r s y : ℤ) → s ≡ r +ℤ y → x +ℤ s ≡ (x +ℤ r) +ℤ y
rest_more x r s y e = omega (arith, ints)

pub regroup : (a b c d : ℤ) → (a +ℤ b) +ℤ (c +ℤ d) ≡ (a +ℤ c) +ℤ (b +ℤ d)
regroup a b c d = omega (arith, ints)

pub onto : (x y z : ℤ) → (x +ℤ y) +ℤ z ≡ x +ℤ (y +ℤ z)
onto x y z = omega (arith, ints)

-- ---- order

pub zero_is : (z : ℤ) → is_zero z ≡ true → z ≡ pos 0
zero_is (pos zero) h = refl
zero_is (pos (suc n)) h = absurd (false≢true h)
zero_is (negsuc n) h = absurd (false≢true h)

pub most_difference : (x y : ℤ) → int_le x y ≡ true → int_le (x -ℤ y) (pos 0) ≡ true
most_difference x y h = le_from (x -ℤ y) (pos 0) (omega (arith, ints))

pub more_difference : (x y : ℤ) → int_le x y ≡ false → int_le ((y -ℤ x) +ℤ pos 1) (pos 0) ≡ true
more_difference x y h = le_from ((y -ℤ x) +ℤ pos 1) (pos 0) (omega (arith, ints))

pub same_difference : (x y : ℤ) → x ≡ y → x -ℤ y ≡ pos 0
same_difference x y h = omega (arith, ints)

pub zero_times : (a n z : ℤ) → int_le a (pos 0) ≡ true → z ≡ pos 0 → int_le (a +ℤ (n *ℤ z)) (pos 0) ≡ true
zero_times a n z h e = ap (λ x. int_le x (pos 0)) (ap (λ x. a +ℤ (n *ℤ x)) e ∙ ap (λ x. a +ℤ x) (times_zero n) ∙ sum_zero a) ∙ h

not_above : (n : ℕ) (z : ℤ) → int_le z (pos 0) ≡ true → int_le (pos n *ℤ z) (pos 0) ≡ true
not_above n z h =
    let p = product_is (pos n) z in
    let q : up z * n ≤ down z * n = mul-le-mul (omega (arith, ints)) (omega arith) in
    le_from (pos n *ℤ z) (pos 0) (omega (arith, ints, p, q))

sum_most : (x y : ℤ) → int_le x (pos 0) ≡ true → int_le y (pos 0) ≡ true → int_le (x +ℤ y) (pos 0) ≡ true
sum_most x y h k = le_from (x +ℤ y) (pos 0) (omega (arith, ints))

pub most_times : (a n z : ℤ) → int_le a (pos 0) ≡ true → is_positive n ≡ true → int_le z (pos 0) ≡ true → int_le (a +ℤ (n *ℤ z)) (pos 0) ≡ true
most_times a (pos n) z h p l = sum_most a (pos n *ℤ z) h (not_above n z l)
most_times a (negsuc n) z h p l = absurd (false≢true p)

-- ---- division with rounding down

-- k times the quotient is at most z, and above z - k
euclid_parts : (z : ℤ) (k : ℕ) → 0 < k → (up (int_div_euclid z (pos k)) * k + down z ≤ down (int_div_euclid z (pos k)) * k + up z) × (down (int_div_euclid z (pos k)) * k + up z < up (int_div_euclid z (pos k)) * k + down z + k)
euclid_parts (pos a) k h = omega arith
euclid_parts (negsuc a) k h = omega arith

-- what leaves no remainder is the divisor times the quotient
exact_at : (z : ℤ) (k : ℕ) → 0 < k → int_rem_euclid z (pos k) ≡ pos 0 → pos k *ℤ int_div_euclid z (pos k) ≡ z
exact_at (pos a) k h e = let r : a % k ≡ 0 = cc in ap pos (omega (arith, r))
exact_at (negsuc a) k h e =
    let r : k - 1 - a % k ≡ 0 = cc in
    let s : k * suc (a / k) ≡ suc a = omega (arith, r) in
    ap (λ n. neg_ℤ (pos n)) s

pub exact : (z d : ℤ) → is_positive d ≡ true → is_zero (int_rem_euclid z d) ≡ true → d *ℤ int_div_euclid z d ≡ z
exact z (pos k) h e = exact_at z k (ltb-true 0 k h) (zero_is (int_rem_euclid z (pos k)) e)
exact z (negsuc k) h e = absurd (false≢true h)

-- what is at most z, divided, is at most the quotient
floor_at : (q z : ℤ) (k : ℕ) → 0 < k → int_le (pos k *ℤ q) z ≡ true → int_le q (int_div_euclid z (pos k)) ≡ true
floor_at q z k h l =
    by_lt_z (int_div_euclid z (pos k)) q
    (λ above.
    let parts = euclid_parts z k h in
    let more : (up (int_div_euclid z (pos k)) + down q + 1) * k ≤ (up q + down (int_div_euclid z (pos k))) * k = mul-le-mul (omega (arith, ints, above)) (omega arith) in
    absurd (omega (arith, ints, parts, more, product_is (pos k) q, l)))
    (λ le. le_from q (int_div_euclid z (pos k)) le)

pub floored : (q z d : ℤ) → is_positive d ≡ true → int_le (d *ℤ q) z ≡ true → int_le q (int_div_euclid z d) ≡ true
floored q z (pos k) h l = floor_at q z k (ltb-true 0 k h) l
floored q z (negsuc k) h l = absurd (false≢true h)

-- what is at most 0 with a number is at most that number's negation
pub moved : (x c : ℤ) → int_le (x +ℤ c) (pos 0) ≡ true → int_le x (neg_ℤ c) ≡ true
moved x c h = le_from x (neg_ℤ c) (omega (arith, ints, neg_is c))
