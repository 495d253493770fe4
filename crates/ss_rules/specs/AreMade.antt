-- Instances that were made.
use Rattle.std.specs.Prelude.{◌≡◌, ℕ, List, Option, Some, slice_get}
use Rattle.ss_core.specs.Tree.{ClassTree}
use Rattle.ss_logic.specs.Asked.{said}
use Rattle.ss_terms.specs.declared.forms.FormulaId.{FormulaId}
use Rattle.ss_terms.specs.Forms.{Forms, IsFormulaNumber}
use Rattle.ss_rules_asked.specs.declared.asked.Asked.{Asked}
use Rattle.ss_rules_asked.specs.Numbers.{asked_at, HasAsked}
use Rattle.ss_rules.specs.declared.made.Made.{Made}

-- each number is that of what the instance at its place says
abbrev pub AreNumbers : List ClassTree → Forms → List Asked → List (Option FormulaId) → Type 0
AreNumbers cs b asked found = (k : ℕ) (a : Asked) (o : Option FormulaId) → slice_get asked k ≡ Some a → slice_get found k ≡ Some o → IsFormulaNumber b (said cs (asked_at b a)) o

-- the bank has them
pub record AreMade (cs : List ClassTree) (b : Forms) (m : Made) : Type 0 where
  pub has : HasAsked b m.asked.items
  pub are : AreNumbers cs b m.asked.items m.found.items
