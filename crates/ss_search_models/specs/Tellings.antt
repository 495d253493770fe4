-- What has a truth value, and formulas of which all that has one is found.
use Rattle.std.specs.Prelude.{◌≡◌, List, Bool, true}
use Rattle.std.specs.List.{list_all, list_any}
use Rattle.ss_bit_set.specs.Marked.{marked}
use Rattle.ss_logic.specs.Formulas.{Formula, Literal, Forall, Exists, neg}
use Rattle.ss_logic.specs.Equal.{same_formula}
use Rattle.ss_logic_countermodels.specs.Refuting.{told_in}
use Rattle.ss_terms.specs.declared.forms.FormulaId.{FormulaId}
use Rattle.ss_terms.specs.Forms.{Forms, formula_at}
use Rattle.ss_rules_occurring.specs.Found.{formulas_of, Holds}
use Rattle.ss_search_models.specs.declared.telling.Telling.{Telling}

-- of a literal or a quantified formula, what has its truth value
abbrev pub told_of : Formula → Formula
told_of (Literal sign p ts) = Literal true p ts
told_of (Exists ss f) = Forall ss (neg f)
told_of f = f

-- each of the second list is in the first
abbrev pub are_among : List Formula → List Formula → Bool
are_among fs gs = list_all (λ g. list_any (same_formula g) fs) gs

-- these were found, and all that is told in a formula that was seen
pub record Tells (b : Forms) (t : Telling) (fs : List Formula) : Type 0 where
  pub found : Holds b t.found fs
  pub seen : (f : FormulaId) → marked t.seen f.0 ≡ true → are_among fs (told_in (formula_at b f)) ≡ true

abbrev pub IsTelling : Forms → Telling → Type 0
IsTelling b t = Tells b t (formulas_of b t.found)
