-- What a weighted sum gives, read as a fact again.
use Rattle.std.specs.Prelude.{◌≡◌, ℤ, List, [], ◌∷◌, ◌++◌, map, Option, Some, None, false, true}
use Rattle.std.specs.List.{AllZip}
use Rattle.ss_core.specs.Tree.{ClassTree}
use Rattle.ss_logic.specs.Terms.{Term}
use Rattle.ss_logic.specs.Formulas.{Formula}
use Rattle.ss_logic.specs.Equal.{same_term}
use Rattle.ss_logic.specs.Sums.{is_within, term_sum, linear, sum_fact_of}
use Rattle.ss_terms.specs.Forms.{Forms}
use Rattle.ss_linear_sums.specs.declared.forms.SumFact.{SumFact}
use Rattle.ss_linear_sums.specs.Linear.{HasParts, fact_at, IsFactOf}

-- the facts that are read of known formulas, one by one
abbrev pub AreFacts : List ClassTree → Forms → List Formula → List (Option SumFact) → Type 0
AreFacts cs b known facts = AllZip (IsFactOf b) facts (map (sum_fact_of cs) known)

-- no part is of the term
abbrev pub AreOthers : Term → List (Term × ℤ) → Type 0
AreOthers t [] = Unit {0}
AreOthers t (p ∷ ps) = (same_term p.0 t ≡ false) × AreOthers t ps

-- a part that may stand after others: its term is no sum, and no part before it has it
abbrev pub IsNext : List (Term × ℤ) → Term × ℤ → Type 0
IsNext before p = (linear p.0 ≡ Some (term_sum p.0)) × (is_within p.1 ≡ true) × AreOthers p.0 before

-- such parts, one after the other
abbrev pub AreNext : List (Term × ℤ) → List (Term × ℤ) → Type 0
AreNext before [] = Unit {0}
AreNext before (p ∷ ps) = IsNext before p × AreNext (before ++ p ∷ []) ps

-- the sum gives a formula that says this, where it says anything
abbrev pub IsResult : List ClassTree → Forms → Option Formula → Option SumFact → Type 0
IsResult cs b o None = Unit {0}
IsResult cs b o (Some fact) = HasParts b fact.sum.parts.items × ((f : Formula) × (o ≡ Some f) × (sum_fact_of cs f ≡ Some (fact_at b fact)))
