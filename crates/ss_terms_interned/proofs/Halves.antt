-- The pair of a number, and its place in the pair.
use Rattle.std.proofs.Common.{◌≡◌, ℕ, zero, suc, ◌+◌, ◌*◌, ◌/◌, ◌%◌, ◌<◌, refl, sym, inl, inr, ◌⊎◌, arith}
use Rattle.std.proofs.lemmas.Nat.{div-add-mod', div-mul-add, mod-mul-add, mod_below, div_below}

-- the two numbers of a pair
pub split_number : (n : ℕ) → (n ≡ n / 2 * 2 + 0) × (n % 2 ≡ 0) ⊎ ((n ≡ n / 2 * 2 + 1) × (n % 2 ≡ 1))
split_number n =
    let whole = div-add-mod' n 2 in
    let small : n % 2 < 2 = mod_below n 2 (omega arith) in
    by (n % 2) whole small
  where
    by : (r : ℕ) → n / 2 * 2 + r ≡ n → r < 2 → (n ≡ n / 2 * 2 + 0) × (r ≡ 0) ⊎ ((n ≡ n / 2 * 2 + 1) × (r ≡ 1))
    by zero w s = inl (sym w, refl)
    by (suc zero) w s = inr (sym w, refl)
    by (suc (suc r)) w s = absurd (omega arith)

pub half_of : (k r : ℕ) → r < 2 → (k * 2 + r) / 2 ≡ k
half_of k r h = div-mul-add k 2 r h

pub sign_of : (k r : ℕ) → r < 2 → (k * 2 + r) % 2 ≡ r
sign_of k r h = mod-mul-add k 2 r h

pub half_below : (n k : ℕ) → n < k * 2 → n / 2 < k
half_below n k h = div_below n 2 k (omega arith) h
