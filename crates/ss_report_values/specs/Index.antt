-- What is found of terms by their numbers in a bank.
use Rattle.std.specs.Prelude.{◌≡◌, ℕ, ◌+◌, List, length, drop, nat_eq, unwrap_or}
use Rattle.indexmap.specs.IndexMap.{get}
use Rattle.ss_logic.specs.Equal.{same_term}
use Rattle.ss_logic_countermodels.specs.Refuting.{place_among}
use Rattle.ss_terms.specs.declared.forms.TermId.{TermId}
use Rattle.ss_terms.specs.Forms.{Forms, term_at, terms_at, HasTerm}
use Rattle.ss_report_values.specs.declared.literals.Reading.{Reading}
use Rattle.ss_report_values.specs.declared.index.Places.{Places}
use Rattle.ss_report_values.specs.declared.index.Values.{Values}
use Rattle.ss_report_values.specs.declared.index.Index.{Index}
use Rattle.ss_report_values.specs.Literals.{value_in}

abbrev pub no_number : TermId
no_number = record { 0 = 0 }

-- of each term the first place from the place i on, or how many terms there are
abbrev pub ArePlaces : Forms → List TermId → ℕ → Places → Type 0
ArePlaces b ts i p = (t : TermId) → HasTerm b t → unwrap_or (get nat_eq p.places t.0) (length ts) ≡ i + place_among (same_term (term_at b t)) (terms_at b (drop i ts))

-- of each class the first literal from the place i on
abbrev pub AreValues : Forms → Reading → ℕ → Values → Type 0
AreValues b r i v = (n : ℕ) → get nat_eq v.values n ≡ value_in (terms_at b (drop i r.terms.now)) (drop i r.classes.now) n

pub record IsIndex (b : Forms) (r : Reading) (x : Index) : Type 0 where
  pub places : ArePlaces b r.terms.now 0 x.places
  pub values : AreValues b r 0 x.values
