-- Sums of one or two known facts.
use Rattle.std.specs.Prelude.{◌≡◌, ℕ, ℤ, pos, List, [], ◌∷◌, true, Some, if◌then◌else◌}
use Rattle.ss_core.specs.Tree.{ClassTree}
use Rattle.ss_logic.specs.Terms.{Term}
use Rattle.ss_logic.specs.Formulas.{Formula}
use Rattle.ss_logic.specs.Equal.{same_term}
use Rattle.ss_logic.specs.Sums.{is_zero, sum_of}
use Rattle.ss_linear_rules.specs.Two.{IsFalse}

-- the sum with these weights and the divisor 1 doesn't give what is false
abbrev pub IsNone : List ClassTree → List Formula → List (ℕ × ℤ) → Type 0
IsNone cs known ps = (f : Formula) → sum_of cs known (pos 1) ps ≡ Some f → IsFalse f → ⊥

-- no part has a coefficient
abbrev pub AreZero : List (Term × ℤ) → Type 0
AreZero [] = Unit {0}
AreZero (p ∷ ps) = (is_zero p.1 ≡ true) × AreZero ps

-- 1 at the term, else 0
abbrev pub one_at : Term → Term → ℤ
one_at t u = if same_term u t then pos 1 else pos 0
