-- Formulas whose outcome is known.
use Rattle.std.specs.Prelude.{◌≡◌, Bool, true}
use Rattle.ss_bit_set.specs.Marked.{marked}
use Rattle.ss_logic_countermodels.specs.Refuting.{Model, comes_out}
use Rattle.ss_terms.specs.declared.forms.FormulaId.{FormulaId}
use Rattle.ss_terms.specs.Forms.{Forms, formula_at}
use Rattle.ss_search_models.specs.declared.outcomes.Outcomes.{Outcomes}

pub record AreOutcomes (b : Forms) (m : Model) (o : Outcomes) : Type 0 where
  pub right : (f : FormulaId) → marked o.known f.0 ≡ true → marked o.trues f.0 ≡ comes_out m (formula_at b f)

-- the first is what was to be found, and what is known stays right
pub record Finds (b : Forms) (m : Model) (o : Outcomes) (found right : Bool) : Type 0 where
  pub outcomes : AreOutcomes b m o
  pub is : found ≡ right
