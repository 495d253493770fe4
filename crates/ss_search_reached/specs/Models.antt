-- What holds of the formulas of a bank, and the classes of a model.
use Rattle.std.specs.Prelude.{◌≡◌, ℕ, ◌==◌, ◌+◌, Bool, if◌then◌else◌}
use Rattle.std.specs.List.{Contains}
use Rattle.ss_logic.specs.Terms.{Term, Terms, term_list}
use Rattle.ss_logic.specs.Formulas.{Predicate, Formula, Literal}
use Rattle.ss_terms.specs.declared.forms.TermId.{TermId}
use Rattle.ss_terms.specs.Forms.{Forms, term_at, HasTerm}

-- the bank has the term
pub record HasNumber (b : Forms) (x : Term) : Type 0 where
  pub term : TermId
  pub has : HasTerm b term
  pub is : term_at b term ≡ x

-- the arguments of the formula, where it is a literal, are terms of the bank
abbrev pub HasArguments : Forms → Formula → Type 0
HasArguments b f = (sign : Bool) (p : Predicate) (ts : Terms) → f ≡ Literal sign p ts → (x : Term) → Contains (term_list ts) x → HasNumber b x

-- The number of a class in a model: 0 for that of the names that nothing binds, a greater one for each other.
abbrev pub renumbered : ℕ → ℕ → ℕ
renumbered names class = if class == names then 0 else class + 1
