-- What linear sums come to where each of their parts has some number.
use Rattle.std.specs.Prelude.{◌≡◌, ℕ, ℤ, pos, ◌+ℤ◌, ◌*ℤ◌, int_le, List, [], ◌∷◌, Bool, true, false, Option, Some, None}
use Rattle.ss_core.specs.Tree.{ClassTree}
use Rattle.ss_logic.specs.Terms.{Term}
use Rattle.ss_logic.specs.Formulas.{Formula}
use Rattle.ss_logic.specs.Sums.{LinearSum, SumFact, is_weight}
use Rattle.ss_linear_rules.specs.Two.{fact_at, is_difference, IsUnit}

abbrev pub parts_at : (Term → ℤ) → List (Term × ℤ) → ℤ
parts_at v [] = pos 0
parts_at v (p ∷ ps) = (p.1 *ℤ v p.0) +ℤ parts_at v ps

abbrev pub sum_at : (Term → ℤ) → LinearSum → ℤ
sum_at v a = parts_at v a.parts +ℤ a.constant

-- a sum is 0, or at most 0
abbrev pub IsMetBy : Bool → ℤ → Type 0
IsMetBy true z = z ≡ pos 0
IsMetBy false z = int_le z (pos 0) ≡ true

-- the known fact at this place, where there is one, is so at these numbers
abbrev pub IsMetAt : List ClassTree → List Formula → (Term → ℤ) → ℕ → Type 0
IsMetAt cs known v k = (fact : SumFact) → fact_at cs known k ≡ Some fact → IsMetBy fact.is_equality (sum_at v fact.sum)

-- each known fact that is a difference is so at these numbers
abbrev pub MeetsDifferences : List ClassTree → List Formula → (Term → ℤ) → Type 0
MeetsDifferences cs known v = (k : ℕ) (fact : SumFact) → fact_at cs known k ≡ Some fact → is_difference fact ≡ true → IsMetBy fact.is_equality (sum_at v fact.sum)

-- ---- a weighted sum of differences

abbrev pub fact_value : (Term → ℤ) → Option SumFact → ℤ
fact_value v None = pos 0
fact_value v (Some fact) = sum_at v fact.sum

-- what the known facts at these places come to, with these weights
abbrev pub total : List ClassTree → List Formula → (Term → ℤ) → List (ℕ × ℤ) → ℤ
total cs known v [] = pos 0
total cs known v (p ∷ ps) = (p.1 *ℤ fact_value v (fact_at cs known p.0)) +ℤ total cs known v ps

-- a difference with a weight of 1 or -1 that it can have
pub record IsUsed (cs : List ClassTree) (known : List Formula) (p : ℕ × ℤ) : Type 0 where
  pub fact : SumFact
  pub is : fact_at cs known p.0 ≡ Some fact
  pub difference : is_difference fact ≡ true
  pub weighs : is_weight fact.is_equality p.1 ≡ true
  pub unit : IsUnit p.1
