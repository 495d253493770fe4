-- Looks at formulas beside known ones, whose classes and literals stand in a table.
use Rattle.std.specs.Prelude.{◌≡◌, ℕ, ◌<◌, ◌≤◌, List, [], ◌∷◌, length, map, true, Some, slice_get}
use Rattle.std.specs.List.{Contains}
use Rattle.ss_bit_set.specs.Marked.{marked}
use Rattle.ss_logic.specs.Formulas.{Formula, Formulas, Or, formula_list}
use Rattle.ss_terms.specs.declared.forms.FormulaId.{FormulaId}
use Rattle.ss_terms.specs.Forms.{formula_at, formulas_at, HasFormula, HasFormulas}
use Rattle.ss_rules_occurring.specs.Found.{AreMarked, formula_number}
use Rattle.ss_equality_rules.specs.Equal.{Equations, AreFormsOf, AreClassesOf}
use Rattle.ss_search_clashes.specs.Numbered.{AreMerged}
use Rattle.ss_search_clashes.specs.Tables.{IsTable}
use Rattle.ss_search_procedure_rules.specs.Closed.{basics, MayHold, OccursIn}
use Rattle.ss_search_reached.specs.declared.looking.Looking.{Looking}
use Rattle.ss_search_reached.specs.declared.outcomes.Outcomes.{Outcomes}

-- the known formulas
abbrev pub known_at : Looking → List Formula
known_at s = formulas_at s.bank.now s.known.now

-- their numbers are marked, and the table has them at the classes of the congruence
pub record IsLooking (s : Looking) (c : Equations) : Type 0 where
  pub has : HasFormulas s.bank.now s.known.now
  pub marked : AreMarked s.numbers.now (map formula_number s.known.now)
  pub forms : AreFormsOf s.bank.now c.terms
  pub merged : AreMerged s.bank.now c.terms c.merges s.known.now
  pub table : IsTable s.bank.now s.known.now s.table.now
  pub classes : AreClassesOf c.terms c.merges s.table.now.classes

-- the formula with this number may hold beside them
abbrev pub IsHolding : Looking → FormulaId → Type 0
IsHolding s f = MayHold (basics (known_at s)) (formula_at s.bank.now f)

pub record AreHolding (s : Looking) (o : Outcomes) : Type 0 where
  pub holding : (f : FormulaId) → marked o.holding f.0 ≡ true → IsHolding s f

-- the formula at this place, from one on, may hold
pub record HoldsFrom (s : Looking) (fs : List FormulaId) (from i : ℕ) : Type 0 where
  pub later : from ≤ i
  pub within : i < length fs
  pub holds : (f : FormulaId) → slice_get fs i ≡ Some f → IsHolding s f

-- this part follows of the formula, where all others are refuted
abbrev pub IsPartOf : Looking → Formula → FormulaId → Type 0
IsPartOf s f part = HasFormula s.bank.now part × ((fs : Formulas) → f ≡ Or fs → Contains (formula_list fs) (formula_at s.bank.now part)) × ((p : Formula) → OccursIn (formula_at s.bank.now part ∷ []) p → OccursIn (f ∷ []) p)
