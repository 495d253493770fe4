-- Whole numbers, as the rules speak of them.
use Rattle.std.proofs.Common.{◌≡◌, ℕ, zero, suc, ◌-◌, ◌%◌, ◌<◌, ℤ, pos, negsuc, ◌+ℤ◌, ◌*ℤ◌, neg_ℤ, true, refl, sym, ◌∙◌, ap, arith}
use Rattle.std.specs.Prelude.{int_le, int_div, int_rem, unsigned_abs, ◌≤ℤ◌, nat_lt, ◌^◌}
use Rattle.std.proofs.Math.IntN.{*ℤ_comm}
use Rattle.std.proofs.lemmas.Bool.{false≢true, le-leb, leb-true, ltb-true}
use Rattle.std.proofs.lemmas.Int.{ints, quot-rem, rem_below, by_lt_z}
use Rattle.ss_store_rules.specs.Numbers.{fits}

pub le_from : (a b : ℤ) → a ≤ℤ b → int_le a b ≡ true
le_from a b h = grind (arith, ints)

-- one of two numbers is below the other, or they are equal
pub three_ways_true : {P : Type 0} (a b : ℤ) → (a ≡ b → P) → (int_le (a +ℤ pos 1) b ≡ true → P) → (int_le (b +ℤ pos 1) a ≡ true → P) → P
three_ways_true a b same below above =
    by_lt_z a b
    (λ l. below (le_from (a +ℤ pos 1) b (omega (arith, ints, l))))
    (λ l. by_lt_z b a
    (λ k. above (le_from (b +ℤ pos 1) a (omega (arith, ints, k))))
    (λ k. same (omega (arith, ints, l, k))))

-- the number is the divisor times the quotient, and the remainder
pub division_sum : (a d : ℤ) → a ≡ (d *ℤ int_div a d) +ℤ int_rem a d
division_sum a d = sym (quot-rem a d) ∙ ap (λ x. x +ℤ int_rem a d) (*ℤ_comm (int_div a d) d)

pub rem_up : (a d : ℤ) → int_le (pos 0) a ≡ true → int_le (pos 0) (int_rem a d) ≡ true
rem_up (pos a) d h = le-leb 0 (a % unsigned_abs d) (omega arith)
rem_up (negsuc a) d h = absurd (false≢true h)

neg_down : (n : ℕ) → int_le (neg_ℤ (pos n)) (pos 0) ≡ true
neg_down zero = refl
neg_down (suc n) = refl

pub rem_down : (a d : ℤ) → int_le a (pos 0) ≡ true → int_le (int_rem a d) (pos 0) ≡ true
rem_down (pos zero) d h = le-leb (0 % unsigned_abs d) 0 (omega arith)
rem_down (pos (suc a)) d h = absurd (let l = leb-true (suc a) 0 h in omega (arith, l))
rem_down (negsuc a) d h = neg_down (suc a % unsigned_abs d)

upper : (z : ℤ) (n : ℕ) → unsigned_abs z < n → int_le z (pos (n - 1)) ≡ true
upper (pos a) n h = le-leb a (n - 1) (omega (arith, h))
upper (negsuc a) n h = refl

lower : (z : ℤ) (k : ℕ) → unsigned_abs z < suc k → int_le (neg_ℤ (pos k)) z ≡ true
lower (pos a) zero h = le-leb 0 a (omega arith)
lower (pos a) (suc k) h = refl
lower (negsuc a) zero h = absurd (omega (arith, h))
lower (negsuc a) (suc k) h = le-leb a k (omega (arith, h))

pub rem_upper : (a d : ℤ) → 0 < unsigned_abs d → int_le (int_rem a d) (pos (unsigned_abs d - 1)) ≡ true
rem_upper a d h = upper (int_rem a d) (unsigned_abs d) (rem_below a d h)

pub rem_lower : (a d : ℤ) → 0 < unsigned_abs d → int_le (neg_ℤ (pos (unsigned_abs d - 1))) (int_rem a d) ≡ true
rem_lower a d h = let r = rem_below a d h in lower (int_rem a d) (unsigned_abs d - 1) (omega (arith, h, r))

-- ---- 32 bits

pub fits_low : (z : ℤ) → fits z ≡ true → int_le (negsuc (2 ^ 31 - 1)) z ≡ true
fits_low (pos n) h = refl
fits_low (negsuc n) h = let l = ltb-true n (2 ^ 31) h in le-leb n (2 ^ 31 - 1) (omega (arith, l))

pub fits_high : (z : ℤ) → fits z ≡ true → int_le z (pos (2 ^ 31 - 1)) ≡ true
fits_high (pos n) h = let l = ltb-true n (2 ^ 31) h in le-leb n (2 ^ 31 - 1) (omega (arith, l))
fits_high (negsuc n) h = refl

pub short_high : (n : ℕ) → nat_lt n (2 ^ 31) ≡ true → int_le (pos n) (pos (2 ^ 31 - 1)) ≡ true
short_high n h = let l = ltb-true n (2 ^ 31) h in le-leb n (2 ^ 31 - 1) (omega (arith, l))

pub not_negative : (n : ℕ) → int_le (pos 0) (pos n) ≡ true
not_negative n = le-leb 0 n (omega arith)
