-- Known facts that contradict each other by weighted sums.
use Rattle.std.specs.Prelude.{◌≡◌, ◌⊎◌, ℕ, zero, suc, ◌≤◌, ◌^◌, nat_lt, ℤ, pos, negsuc, ◌<ℤ◌, unsigned_abs, List, [], ◌∷◌, ◌++◌, length, Bool, true, false, ◌&&◌, ◌||◌, Option, Some, option_and_then, slice_get, if◌then◌else◌}
use Rattle.std.specs.List.{AllByRecursion}
use Rattle.ss_core.specs.Tree.{ClassTree}
use Rattle.ss_logic.specs.Terms.{Term}
use Rattle.ss_logic.specs.Formulas.{Formula}
use Rattle.ss_logic.specs.Shapes.{number, at_most}
use Rattle.ss_logic.specs.Sums.{is_zero, SumFact, sum_fact_of, sum_of}

-- 0 is at most a number below 0
abbrev pub IsFalse : Formula → Type 0
IsFalse f = (k : ℤ) × (f ≡ at_most (number (pos 0)) (number k)) × (k <ℤ pos 0)

-- Sums, each with its divisor and its weights, over the known facts and what the sums before it gave. The last one gives what is false.
abbrev pub Refute : List ClassTree → List Formula → List (ℤ × List (ℕ × ℤ)) → Type 0
Refute cs known [] = ⊥
Refute cs known (s ∷ []) = (f : Formula) × (sum_of cs known s.0 s.1 ≡ Some f) × IsFalse f
Refute cs known (s ∷ r ∷ ss) = (f : Formula) × (sum_of cs known s.0 s.1 ≡ Some f) × Refute cs (known ++ f ∷ []) (r ∷ ss)

-- ---- differences

abbrev pub is_one : ℤ → Bool
is_one (pos (suc zero)) = true
is_one (pos zero) = false
is_one (pos (suc (suc n))) = false
is_one (negsuc n) = false

abbrev pub is_less_one : ℤ → Bool
is_less_one (negsuc zero) = true
is_less_one (negsuc (suc n)) = false
is_less_one (pos n) = false

-- the parts that count
abbrev pub parts_left : List (Term × ℤ) → List (Term × ℤ)
parts_left [] = []
parts_left (p ∷ ps) = if is_zero p.1 then parts_left ps else p ∷ parts_left ps

-- none, or one with coefficient 1 or -1, or two with 1 and -1
abbrev pub are_opposite : List (Term × ℤ) → Bool
are_opposite [] = true
are_opposite (p ∷ []) = is_one p.1 || is_less_one p.1
are_opposite (p ∷ q ∷ []) = is_one p.1 && is_less_one q.1 || is_less_one p.1 && is_one q.1
are_opposite (p ∷ q ∷ r ∷ ps) = false

-- such parts, and a number below 2 ^ 64 in size
abbrev pub is_difference : SumFact → Bool
is_difference fact = are_opposite (parts_left fact.sum.parts) && nat_lt (unsigned_abs fact.sum.constant) (2 ^ 64)

-- ---- one or two facts, or differences

-- what the known formula at a place says of a sum
abbrev pub fact_at : List ClassTree → List Formula → ℕ → Option SumFact
fact_at cs known k = option_and_then (sum_fact_of cs) (slice_get known k)

abbrev pub IsDifferenceAt : List ClassTree → List Formula → ℕ → Type 0
IsDifferenceAt cs known k = (fact : SumFact) × (fact_at cs known k ≡ Some fact) × (is_difference fact ≡ true)

abbrev pub IsUnit : ℤ → Type 0
IsUnit w = (w ≡ pos 1) ⊎ (w ≡ negsuc 0)

-- A sum of known facts gives what is false, with the divisor 1 and with weights of 1, or of -1 where a fact is an equality: one of at most two facts, or
-- of facts that are all differences.
pub record Two (cs : List ClassTree) (known : List Formula) : Type 0 where
  pub weights : List (ℕ × ℤ)
  pub units : AllByRecursion (λ p. IsUnit p.1) weights
  pub few : (length weights ≤ 2) ⊎ AllByRecursion (λ p. IsDifferenceAt cs known p.0) weights
  pub result : Formula
  pub gives : sum_of cs known (pos 1) weights ≡ Some result
  pub contradicts : IsFalse result
