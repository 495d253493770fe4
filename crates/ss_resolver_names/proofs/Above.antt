-- One step up from a class.
use Rattle.std.proofs.Common.{ℕ, zero, suc, ◌≡◌, ◌<◌, ◌≤◌, ◌-◌, List, [], ◌∷◌, Bool, true, false, Option, Some, None, cond, refl, ap, ◌∙◌, arith}
use Rattle.std.specs.Prelude.{◌==◌, nat_lt}
use Rattle.std.proofs.lemmas.Bool.{eq-eqb, ne_eqb, lt-ltb, le-ltb}
use Rattle.ss_ast.specs.Programs.{ClassTree}
use Rattle.ss_tables.specs.Classes.{above, steps_above, chain_from}
use Rattle.ss_resolver_names_rules.specs.Programs.{comes_back}

pub next_step : (cs : List ClassTree) (n : ℕ) (k : ℕ) → 0 < n → steps_above cs n (Some k) ≡ steps_above cs (n - 1) (above cs k)
next_step cs zero k h = absurd (omega arith)
next_step cs (suc n) k h = let e : n ≡ suc n - 1 = omega arith in ap (λ m. steps_above cs m (above cs k)) e

pub no_step : (cs : List ClassTree) (n : ℕ) → steps_above cs n None ≡ None
no_step cs zero = refl
no_step cs (suc n) = refl

pub next_chain : (cs : List ClassTree) (n : ℕ) (k : ℕ) → 0 < n → chain_from cs n (Some k) ≡ k ∷ chain_from cs (n - 1) (above cs k)
next_chain cs zero k h = absurd (omega arith)
next_chain cs (suc n) k h = let e : n ≡ suc n - 1 = omega arith in ap (λ m. k ∷ chain_from cs m (above cs k)) e

pub no_chain : (cs : List ClassTree) (n : ℕ) → chain_from cs n None ≡ []
no_chain cs zero = refl
no_chain cs (suc n) = refl

pub next_back : (cs : List ClassTree) (k n j : ℕ) → 0 < n → comes_back cs k n (Some j) ≡ cond (j == k) true (cond (nat_lt j k) false (comes_back cs k (n - 1) (above cs j)))
next_back cs k zero j h = absurd (omega arith)
next_back cs k (suc n) j h =
    let e : n ≡ suc n - 1 = omega arith in
    ap (λ m. cond (j == k) true (cond (nat_lt j k) false (comes_back cs k m (above cs j)))) e

pub no_back : (cs : List ClassTree) (k n : ℕ) → comes_back cs k n None ≡ false
no_back cs k zero = refl
no_back cs k (suc n) = refl

-- one is back at the class, at an earlier one, or goes on
pub back_same : (cs : List ClassTree) (k n j : ℕ) → 0 < n → j ≡ k → comes_back cs k n (Some j) ≡ true
back_same cs k n j h e = next_back cs k n j h ∙ ap (λ b. cond b true (cond (nat_lt j k) false (comes_back cs k (n - 1) (above cs j)))) (eq-eqb j k e)

pub back_earlier : (cs : List ClassTree) (k n j : ℕ) → 0 < n → j < k → comes_back cs k n (Some j) ≡ false
back_earlier cs k n j h l =
    next_back cs k n j h
    ∙ ap (λ b. cond b true (cond (nat_lt j k) false (comes_back cs k (n - 1) (above cs j)))) (ne_eqb j k (λ e. omega arith))
    ∙ ap (λ b. cond b false (comes_back cs k (n - 1) (above cs j))) (lt-ltb j k l)

pub back_later : (cs : List ClassTree) (k n j : ℕ) → 0 < n → (j ≡ k → ⊥) → k ≤ j → comes_back cs k n (Some j) ≡ comes_back cs k (n - 1) (above cs j)
back_later cs k n j h d l =
    next_back cs k n j h
    ∙ ap (λ b. cond b true (cond (nat_lt j k) false (comes_back cs k (n - 1) (above cs j)))) (ne_eqb j k d)
    ∙ ap (λ b. cond b false (comes_back cs k (n - 1) (above cs j))) (le-ltb j k l)
