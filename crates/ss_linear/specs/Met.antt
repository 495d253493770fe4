-- What is so at numbers of terms.
use Rattle.std.specs.Prelude.{ℤ, List, Bool, true, false, Option, Some, None}
use Rattle.std.specs.List.{AllByRecursion}
use Rattle.ss_core.specs.Tree.{ClassTree}
use Rattle.ss_logic.specs.Terms.{Term}
use Rattle.ss_logic.specs.Formulas.{Formula}
use Rattle.ss_logic.specs.Sums.{SumFact, sum_fact_of}
use Rattle.ss_linear_rules.specs.Valued.{sum_at, IsMetBy}

-- what is said of a sum, if anything, is so at these numbers
abbrev pub Meets : (Term → ℤ) → Option SumFact → Type 0
Meets v None = Unit {0}
Meets v (Some fact) = IsMetBy fact.is_equality (sum_at v fact.sum)

-- something is said of a sum, and it is so at these numbers
abbrev pub MeetsSome : (Term → ℤ) → Option SumFact → Type 0
MeetsSome v None = ⊥
MeetsSome v (Some fact) = IsMetBy fact.is_equality (sum_at v fact.sum)

-- the one where nothing need be said, else the other
abbrev pub IsSeen : Bool → (Term → ℤ) → Option SumFact → Type 0
IsSeen true v o = Meets v o
IsSeen false v o = MeetsSome v o

abbrev pub AllMet : List ClassTree → (Term → ℤ) → List Formula → Type 0
AllMet cs v fs = AllByRecursion (λ f. Meets v (sum_fact_of cs f)) fs

abbrev pub AllSaid : List ClassTree → (Term → ℤ) → List Formula → Type 0
AllSaid cs v fs = AllByRecursion (λ f. MeetsSome v (sum_fact_of cs f)) fs

-- numbers of terms at which all known facts are so, and the others too, each of which says something of a sum
pub record AreMet (cs : List ClassTree) (known others : List Formula) : Type 0 where
  pub numbers : Term → ℤ
  pub met : AllMet cs numbers known
  pub said : AllSaid cs numbers others

-- Where each of the others says something of a sum that is so at some numbers, the formulas are so at them.
abbrev pub Follow : List ClassTree → List Formula → List Formula → Type 0
Follow cs fs others = (v : Term → ℤ) → AllSaid cs v others → AllMet cs v fs
