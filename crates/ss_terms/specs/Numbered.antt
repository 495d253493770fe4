-- What numbers that may be there stand for.
use Rattle.std.specs.Prelude.{◌≡◌, List, [], ◌∷◌, Option, Some, None}
use Rattle.ss_logic.specs.Terms.{Term}
use Rattle.ss_logic.specs.Formulas.{Formula}
use Rattle.ss_terms.specs.declared.forms.TermId.{TermId}
use Rattle.ss_terms.specs.declared.forms.FormulaId.{FormulaId}
use Rattle.ss_terms.specs.Forms.{Forms, formula_at, term_at, HasTerm, HasFormula}

-- the option holds the number of the formula, or neither is there
abbrev pub IsNumberOf : Forms → Option FormulaId → Option Formula → Type 0
IsNumberOf b None o = o ≡ None
IsNumberOf b (Some f) o = HasFormula b f × (o ≡ Some (formula_at b f))

abbrev pub IsTermOf : Forms → Option TermId → Option Term → Type 0
IsTermOf b None o = o ≡ None
IsTermOf b (Some t) o = HasTerm b t × (o ≡ Some (term_at b t))

-- the numbers of the two terms, or none
abbrev pub ArePartsOf : Forms → Option (TermId × TermId) → Option (Term × Term) → Type 0
ArePartsOf b None o = o ≡ None
ArePartsOf b (Some p) o = HasTerm b p.0 × HasTerm b p.1 × (o ≡ Some (term_at b p.0, term_at b p.1))

abbrev pub one_of : List TermId → Option TermId
one_of (x ∷ []) = Some x
one_of ts = None

abbrev pub two_of : List TermId → Option (TermId × TermId)
two_of (x ∷ y ∷ []) = Some (x, y)
two_of ts = None

-- the bank has the term, where there is one
abbrev pub HasTermOf : Forms → Option TermId → Type 0
HasTermOf b None = Unit {0}
HasTermOf b (Some t) = HasTerm b t
