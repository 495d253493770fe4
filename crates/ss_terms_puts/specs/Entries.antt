-- Tables over the numbers of a bank, which say of each whether a constant is avoided.
use Rattle.std.specs.Prelude.{◌≡◌, ℕ, ◌<◌, List, length, Bool, false, Option, Some, None, slice_index_or}
use Rattle.ss_logic.specs.declared.Sort.{Sort}
use Rattle.ss_logic.specs.Terms.{Constant, Term, App, no_terms}
use Rattle.ss_logic.specs.Formulas.{term_avoids, avoids}
use Rattle.ss_terms.specs.declared.forms.TermId.{TermId}
use Rattle.ss_terms.specs.declared.forms.FormulaId.{FormulaId}
use Rattle.ss_terms.specs.Forms.{Forms, term_at, formula_at}

-- what the table has at the number
abbrev pub term_entry : List Bool → TermId → Bool
term_entry es t = slice_index_or es t.0 false

abbrev pub formula_entry : List Bool → FormulaId → Bool
formula_entry es f = slice_index_or es f.0 false

-- each entry says whether the term of its number avoids the constant
abbrev pub AreTermEntries : Forms → Sort → ℕ → List Bool → Type 0
AreTermEntries b s k es = (t : TermId) → t.0 < length es → term_entry es t ≡ term_avoids s k (term_at b t)

abbrev pub AreFormulaEntries : Forms → Sort → ℕ → List Bool → Type 0
AreFormulaEntries b s k es = (f : FormulaId) → f.0 < length es → formula_entry es f ≡ avoids s k (formula_at b f)

-- the sort and the number of the constant that the term is
abbrev pub constant_of : Term → Option (Sort × ℕ)
constant_of (App (Constant s k) no_terms) = Some (s, k)
constant_of t = None
