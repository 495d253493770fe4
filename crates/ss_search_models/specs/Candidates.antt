-- What a candidate gives to the numbers of a bank, and the model that it is of what occurs.
use Rattle.std.specs.Prelude.{◌≡◌, ℕ, ◌/◌, List, map, Bool, false, slice_get, unwrap_or}
use Rattle.std.specs.List.{slice_index_or}
use Rattle.ss_logic.specs.Terms.{Term}
use Rattle.ss_logic.specs.Formulas.{Formula}
use Rattle.ss_logic.specs.Equal.{same_term, same_formula}
use Rattle.ss_logic.specs.Occurring.{terms}
use Rattle.ss_logic_countermodels.specs.Refuting.{Model, place_among, told}
use Rattle.ss_terms.specs.declared.forms.FormulaId.{FormulaId}
use Rattle.ss_terms.specs.Forms.{Forms}
use Rattle.ss_equality_rules.specs.Equal.{class_number}
use Rattle.ss_rules_occurring.specs.Found.{terms_of, formulas_of, HasFound, HasFoundTerms}
use Rattle.ss_search_models.specs.declared.candidate.Candidate.{Candidate}

-- the truth value of a number; past the end of the list it is false
abbrev pub truth_number : Candidate → FormulaId → Bool
truth_number c f = unwrap_or (slice_get c.truths.now (f.0 / 2)) false

unfoldable pub class_at : Forms → Candidate → Term → ℕ
class_at b c t = slice_index_or (map (class_number c.classes.now) c.terms.now.list.items) (place_among (same_term t) (terms_of b c.terms.now)) 0

unfoldable pub truth_at : Forms → Candidate → Formula → Bool
truth_at b c f = slice_index_or (map (truth_number c) c.told.now.list.items) (place_among (same_formula f) (formulas_of b c.told.now)) false

abbrev pub model_at : Forms → Candidate → Model
model_at b c = record { class = class_at b c; truth = truth_at b c }

pub record HasCandidate (b : Forms) (c : Candidate) : Type 0 where
  pub terms : HasFoundTerms b c.terms.now
  pub told : HasFound b c.told.now

-- the candidate is for the terms of the formulas, and for what is told in them
pub record IsFor (b : Forms) (c : Candidate) (fs : List Formula) : Type 0 where
  pub has : HasCandidate b c
  pub terms : terms_of b c.terms.now ≡ terms fs
  pub told : formulas_of b c.told.now ≡ told fs
