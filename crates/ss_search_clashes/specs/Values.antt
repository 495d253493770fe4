-- Values that stand at their classes.
use Rattle.std.specs.Prelude.{◌≡◌, ◌≢◌, ℕ, ◌<◌, List, true, Some}
use Rattle.ss_logic_means.specs.Steps.{is_value}
use Rattle.ss_terms.specs.declared.forms.TermId.{TermId}
use Rattle.ss_terms.specs.Forms.{Forms, term_at, HasTerm}
use Rattle.ss_terms.specs.Bank.{number}
use Rattle.ss_equality_rules.specs.Equal.{class_number}
use Rattle.ss_search_procedure_rules.specs.Clashes.{Classing}
use Rattle.ss_search_clashes.specs.declared.signatures.Said.{Said}
use Rattle.ss_search_clashes.specs.Says.{ValueKey, Sayings, said_of}

-- the term with this number stands at the class
abbrev pub IsEntered : Sayings → ℕ → ℕ → Type 0
IsEntered gs class t = (s : Said) × (said_of gs (ValueKey class) ≡ Some s) × (s.place ≡ t)

-- Each value with a number below this stands at its class, and what stands at a class is a value of it.
pub record AreEntered (b : Forms) (classes : List ℕ) (below : ℕ) (gs : Sayings) : Type 0 where
  pub all : (t : TermId) → t.0 < below → is_value (term_at b t) ≡ true → IsEntered gs (class_number classes t) t.0
  pub there : (class : ℕ) (s : Said) → said_of gs (ValueKey class) ≡ Some s → HasTerm b (number s.place)
  pub values : (class : ℕ) (s : Said) → said_of gs (ValueKey class) ≡ Some s → is_value (term_at b (number s.place)) ≡ true
  pub right : (class : ℕ) (s : Said) → said_of gs (ValueKey class) ≡ Some s → class_number classes (number s.place) ≡ class

-- two different values in one class
pub record AreOneClass (b : Forms) (class : Classing) (s t : TermId) : Type 0 where
  pub left : HasTerm b s
  pub right : HasTerm b t
  pub left_value : is_value (term_at b s) ≡ true
  pub right_value : is_value (term_at b t) ≡ true
  pub same : class (term_at b s) ≡ class (term_at b t)
  pub apart : s.0 ≢ t.0
