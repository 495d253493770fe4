-- What numbers of a bank say about formulas and terms.
use Rattle.std.specs.Prelude.{◌≡◌, List, Option, Some, None, Bool, true, false, Vec}
use Rattle.std.specs.declared.alloc.Global.{Global}
use Rattle.ss_logic.specs.Terms.{Term, no_terms, term_then}
use Rattle.ss_logic.specs.Formulas.{Equal, Formula, Literal}
use Rattle.ss_logic_means.specs.Steps.{State}
use Rattle.ss_terms.specs.declared.forms.FormulaId.{FormulaId}
use Rattle.ss_terms.specs.Forms.{Forms, formulas_at, HasFormulas}

-- the numbers of the formulas, or none
abbrev pub AreNumbersOf : Forms → Option (Vec FormulaId Global) → Option (List Formula) → Type 0
AreNumbersOf b None o = o ≡ None
AreNumbersOf b (Some v) o = HasFormulas b v.items × (o ≡ Some (formulas_at b v.items))

-- the sides of an equality that the formula is
abbrev pub sides_of : Formula → Option (Term × Term)
sides_of (Literal true Equal (term_then x (term_then y no_terms))) = Some (x, y)
sides_of f = None

-- the step leads to this state, or there is none
abbrev pub IsStepped : Bool → Option State → State → Type 0
IsStepped true o s = o ≡ Some s
IsStepped false o s = o ≡ None
