-- Powers within a limit.
use Rattle.std.proofs.Common.{◌≡◌, ℕ, ◌+◌, ◌*◌, ◌/◌, ◌^◌, ◌<◌, ◌≤◌, sym, ◌∙◌, ap, ◌⊎◌, ⊎_elim, leb, false, true, arith, add-one}
use Rattle.std.specs.Prelude.{◌↔◌, IsTrue}
use Rattle.std.proofs.lemmas.Bool.{false≢true}
use Rattle.std.proofs.lemmas.Bool.Decides.{leb_tells}
use Rattle.std.proofs.lemmas.Bool.{cases_lt}
use Rattle.std.proofs.Math.Pow.{pow_mono}
use Rattle.std.proofs.Math.Nat.{pow-suc, pow-le-pow_left, pow-le-pow_right, mul-le-mul_left}

pub next_power : (base i power : ℕ) → power ≡ base ^ i → power * base ≡ base ^ (i + 1)
next_power base i power e = ap (λ n. n * base) e ∙ sym (pow-suc base i) ∙ ap (λ n. base ^ n) (sym (add-one i))

pub within : (base power limit : ℕ) → 1 ≤ base → power ≤ limit / base → power * base ≤ limit
within base power limit h k = omega (arith, mul-le-mul_left base k)

pub beyond : (base power limit : ℕ) → 1 ≤ base → limit / base < power → limit < power * base
beyond base power limit h k = omega (arith, mul-le-mul_left base k)

pub too_much : (base i exponent power limit : ℕ) → 1 ≤ base → power ≡ base ^ i → i < exponent → limit / base < power → base ^ exponent ≤ limit → ⊥
too_much base i exponent power limit h e k b le =
    let more : base ^ (i + 1) ≤ base ^ exponent = pow-le-pow_right h (omega (arith, k)) in
    omega (arith, more, next_power base i power e, beyond base power limit h b, le)

-- a greater power is no less
pub not_deeper : (base limit depth d : ℕ) → 2 ≤ base → (base ^ (2 * depth + 2) ≤ limit → ⊥) → base ^ (2 * d) ≤ limit → d ≤ depth
not_deeper base limit depth d h none le = ⊎_elim
    (λ k. absurd (none (let more : base ^ (2 * depth + 2) ≤ base ^ (2 * d) = pow-le-pow_right (omega (arith, h)) (omega (arith, k)) in omega (arith, more, le))))
    (λ k. k)
    (cases_lt depth d)

pub not_so_deep : (base limit d : ℕ) → 2 ≤ base → limit < 2 ^ 64 → base ^ (2 * d) ≤ limit → d ≤ 32
not_so_deep base limit d h small le = ⊎_elim
    (λ k. absurd (
    let more : 2 ^ 64 ≤ 2 ^ (2 * d) = pow_mono {i = 64} {j = 2 * d} (omega (arith, k)) in
    let most : 2 ^ (2 * d) ≤ base ^ (2 * d) = pow-le-pow_left {n = 2} {m = base} h (2 * d) in
    omega (arith, more, most, le, small)))
    (λ k. k)
    (cases_lt 32 d)

pub leb_is : (a b : ℕ) → IsTrue (leb a b) ↔ (a ≤ b)
leb_is a b = ⊎_elim
    (λ h. (λ t. h.1, λ le. h.0))
    (λ h. (λ t. absurd (false≢true (sym h.0 ∙ t)), λ le. absurd (omega (arith, h.1, le))))
    (leb_tells a b)
