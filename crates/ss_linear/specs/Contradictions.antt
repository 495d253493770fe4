-- What is read and found of known facts.
use Rattle.std.specs.Prelude.{◌≡◌, ◌⊎◌, ℕ, ℤ, pos, ◌-ℤ◌, List, [], ◌∷◌, map, Bool, true, false, Option, Some, None, IfSome, Vec}
use Rattle.std.specs.declared.alloc.Global.{Global}
use Rattle.std.specs.List.{All, AllByRecursion}
use Rattle.ss_core.specs.Tree.{ClassTree}
use Rattle.ss_logic.specs.Terms.{Term}
use Rattle.ss_logic.specs.Formulas.{Formula}
use Rattle.ss_logic.specs.Shapes.{equal}
use Rattle.ss_logic.specs.Sums.{sum_of}
use Rattle.ss_terms.specs.declared.forms.TermId.{TermId}
use Rattle.ss_terms.specs.Forms.{Forms, term_at, HasTerm}
use Rattle.ss_linear_sums.specs.declared.forms.SumFact.{SumFact}
use Rattle.ss_linear_sums.specs.Linear.{HasParts}
use Rattle.ss_deriv.specs.declared.line.Sum.{Sum}
use Rattle.ss_linear_rules.specs.Two.{IsFalse, IsUnit}
use Rattle.ss_linear_rules.specs.Few.{IsNone}
use Rattle.ss_linear_rules.specs.Valued.{parts_at, IsMetAt}
use Rattle.ss_linear_rules.specs.Nodes.{end_value}
use Rattle.ss_linear_network.specs.Made.{term_of}
use Rattle.ss_terms.specs.Numbered.{HasTermOf}
use Rattle.ss_linear.specs.declared.ends.Ends.{Ends}

-- the divisor of a sum, and its weights
abbrev pub summed : Sum → ℤ × List (ℕ × ℤ)
summed s = (s.divisor, s.parts.items)

abbrev pub sums_of : List Sum → List (ℤ × List (ℕ × ℤ))
sums_of ss = map summed ss

-- pairs of terms of a bank
abbrev pub Pairs : Type 0
Pairs = List (TermId × TermId)

-- that two terms are equal
abbrev pub equality_at : Forms → TermId × TermId → Formula
equality_at b p = equal (term_at b p.0) (term_at b p.1)

abbrev pub equalities_at : Forms → Pairs → List Formula
equalities_at b ps = map (equality_at b) ps

-- the bank has both terms of each pair
abbrev pub HasPairs : Forms → Pairs → Type 0
HasPairs b ps = AllByRecursion (λ p. HasTerm b p.0 × HasTerm b p.1) ps

-- the bank has the terms of the facts
abbrev pub HaveParts : Forms → List (Option SumFact) → Type 0
HaveParts b facts = All (λ o. IfSome o (λ f. HasParts b f.sum.parts.items)) facts

-- the sum with these weights and the divisor 1 gives what is false
abbrev pub IsContradiction : List ClassTree → List Formula → List (ℕ × ℤ) → Type 0
IsContradiction cs known ps = (f : Formula) × (sum_of cs known (pos 1) ps ≡ Some f) × IsFalse f

abbrev pub IsTested : List ClassTree → List Formula → List (ℕ × ℤ) → Bool → Type 0
IsTested cs known ps true = IsContradiction cs known ps
IsTested cs known ps false = IsNone cs known ps

-- the parts come to the difference of the ends, whatever terms are
pub record AreEnds (b : Forms) (ps : List (Term × ℤ)) (e : Ends) : Type 0 where
  pub plus : HasTermOf b e.plus
  pub minus : HasTermOf b e.minus
  pub value : (v : Term → ℤ) → parts_at v ps ≡ end_value v (term_of b e.plus) -ℤ end_value v (term_of b e.minus)

-- weights with which two known facts are a contradiction, or there are none
abbrev pub AreWeights : List ClassTree → List Formula → ℕ → ℕ → Option (ℤ × ℤ) → Type 0
AreWeights cs known i j (Some p) = IsContradiction cs known ((i, p.0) ∷ (j, p.1) ∷ [])
AreWeights cs known i j None = (w u : ℤ) → IsUnit w → IsUnit u → IsNone cs known ((i, w) ∷ (j, u) ∷ [])

-- the weight with which a known fact is one by itself, or there is none
abbrev pub IsWeight : List ClassTree → List Formula → ℕ → Option ℤ → Type 0
IsWeight cs known i (Some w) = IsContradiction cs known ((i, w) ∷ [])
IsWeight cs known i None = (w : ℤ) → IsUnit w → IsNone cs known ((i, w) ∷ [])

-- the known facts at these places are no contradiction together, in this order
abbrev pub IsFreeOf : List ClassTree → List Formula → ℕ → ℕ → Type 0
IsFreeOf cs known i j = (w u : ℤ) → IsUnit w → IsUnit u → IsNone cs known ((i, w) ∷ (j, u) ∷ [])

-- the known fact at this place is no contradiction by itself
abbrev pub IsFreeAlone : List ClassTree → List Formula → ℕ → Type 0
IsFreeAlone cs known i = (w : ℤ) → IsUnit w → IsNone cs known ((i, w) ∷ [])

-- nor together with another one, in any order
abbrev pub IsFreeOfAll : List ClassTree → List Formula → ℕ → Type 0
IsFreeOfAll cs known i = (j : ℕ) → IsFreeOf cs known i j × IsFreeOf cs known j i

-- the same in this order
abbrev pub IsFree : List ClassTree → List Formula → ℕ → Type 0
IsFree cs known i = IsFreeAlone cs known i × ((j : ℕ) → IsFreeOf cs known i j)

-- It is so at these numbers, or it is no contradiction by itself, nor with another one in any order.
abbrev pub IsClear : List ClassTree → List Formula → (Term → ℤ) → ℕ → Type 0
IsClear cs known v i = IsMetAt cs known v i ⊎ (IsFreeAlone cs known i × IsFreeOfAll cs known i)

-- weights with which known facts are a contradiction; or this is so, where there are none
abbrev pub IsContradictionOr : List ClassTree → List Formula → Type 0 → Option (Vec (ℕ × ℤ) Global) → Type 0
IsContradictionOr cs known P (Some ps) = IsContradiction cs known ps.items
IsContradictionOr cs known P None = P
