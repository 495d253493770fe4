-- Lists of numbers that a bank has, with more of them after.
use Rattle.std.proofs.Common.{List, [], ◌∷◌, ◌++◌}
use Rattle.ss_terms.specs.declared.forms.TermId.{TermId}
use Rattle.ss_terms.specs.declared.forms.FormulaId.{FormulaId}
use Rattle.ss_terms.specs.Forms.{Forms, HasTerm, HasTerms, HasFormula, HasFormulas}

pub HasTerms-push : (b : Forms) (ts : List TermId) (t : TermId) → HasTerms b ts → HasTerm b t → HasTerms b (ts ++ t ∷ [])
HasTerms-push b [] t h at = (at, tt)
HasTerms-push b (u ∷ ts) t h at = (h.0, HasTerms-push b ts t h.1 at)

pub HasTerms-append : (b : Forms) (ts us : List TermId) → HasTerms b ts → HasTerms b us → HasTerms b (ts ++ us)
HasTerms-append b [] us h k = k
HasTerms-append b (t ∷ ts) us h k = (h.0, HasTerms-append b ts us h.1 k)

pub HasFormulas-push : (b : Forms) (fs : List FormulaId) (f : FormulaId) → HasFormulas b fs → HasFormula b f → HasFormulas b (fs ++ f ∷ [])
HasFormulas-push b [] f h at = (at, tt)
HasFormulas-push b (g ∷ fs) f h at = (h.0, HasFormulas-push b fs f h.1 at)
