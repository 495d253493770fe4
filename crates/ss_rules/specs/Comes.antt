-- What becomes of a list that may grow too long.
use Rattle.std.specs.Prelude.{◌≡◌, ℕ, List, Bool, Option, Some, None, if◌then◌else◌}
use Rattle.ss_core.specs.Tree.{ClassTree}
use Rattle.ss_logic.specs.Formulas.{Formula}
use Rattle.ss_logic.specs.Ground.{closed}
use Rattle.ss_terms.specs.Forms.{Forms}
use Rattle.ss_rules_occurring.specs.declared.found.FormulaList.{FormulaList}
use Rattle.ss_rules_occurring.specs.Found.{formulas_of, HasFound}

-- where there are few enough formulas the list stands for the wanted ones, and else nothing was wanted
pub record Comes (b : Forms) (few : Bool) (list : FormulaList) (wanted : Option (List Formula)) : Type 0 where
  pub has : HasFound b list
  pub is : wanted ≡ (if few then Some (formulas_of b list) else None)

-- closing adds nothing to the list
abbrev pub IsClosed : List ClassTree → ℕ → List Formula → Type 0
IsClosed cs limit fs = closed cs limit fs ≡ Some fs
