-- Lists of formulas that a bank has.
use Rattle.std.proofs.Common.{List, [], ◌∷◌, ◌++◌}
use Rattle.ss_terms.specs.declared.forms.FormulaId.{FormulaId}
use Rattle.ss_terms.specs.Forms.{Forms, HasFormula, HasFormulas}

pub has_one_more : (b : Forms) (fs : List FormulaId) (f : FormulaId) → HasFormulas b fs → HasFormula b f → HasFormulas b (fs ++ f ∷ [])
has_one_more b [] f h k = (k, tt)
has_one_more b (g ∷ fs) f h k = (h.0, has_one_more b fs f h.1 k)
