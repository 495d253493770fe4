-- Equal terms have equal numbers, and so have equal formulas.
use Rattle.std.specs.Prelude.{◌≡◌, ◌==◌}
use Rattle.ss_logic.specs.Equal.{same_term, same_formula}
use Rattle.ss_terms.specs.declared.forms.TermId.{TermId}
use Rattle.ss_terms.specs.declared.forms.FormulaId.{FormulaId}
use Rattle.ss_terms.specs.Forms.{Forms, term_at, formula_at, HasTerm, HasFormula}

pub record AreApart (b : Forms) : Type 0 where
  pub terms : (x y : TermId) → HasTerm b x → HasTerm b y → (x.0 == y.0) ≡ same_term (term_at b x) (term_at b y)
  pub formulas : (x y : FormulaId) → HasFormula b x → HasFormula b y → (x.0 == y.0) ≡ same_formula (formula_at b x) (formula_at b y)
