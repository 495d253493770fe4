-- What a model that refutes says of a value that is told.
use Rattle.std.specs.Prelude.{◌≡◌, List, true, Some}
use Rattle.std.specs.List.{list_any}
use Rattle.ss_logic.specs.Terms.{Term}
use Rattle.ss_logic.specs.Formulas.{Formula}
use Rattle.ss_logic.specs.Equal.{same_term}
use Rattle.ss_logic_means.specs.Steps.{is_value}
use Rattle.ss_logic.specs.Occurring.{terms}
use Rattle.ss_logic_countermodels.specs.Refuting.{Model}
use Rattle.ss_report_values.specs.declared.literals.Value.{Value}
use Rattle.ss_report_values.specs.Literals.{value_of}

abbrev pub Occurs : List Formula → Term → Type 0
Occurs fs t = list_any (same_term t) (terms fs) ≡ true

-- A literal that is this value stands in the class of the term, and no other.
pub record IsTheValue (m : Model) (fs : List Formula) (t : Term) (v : Value) : Type 0 where
  pub literal : Term
  pub occurs : Occurs fs literal
  pub value : value_of literal ≡ Some v
  pub class : m.class literal ≡ m.class t
  pub only : (u : Term) → Occurs fs u → is_value u ≡ true → m.class u ≡ m.class t → u ≡ literal
