-- The greatest number of a constant in a term and in a formula; 0 where there is none.
use Rattle.std.specs.Prelude.{ℕ, max}
use Rattle.ss_logic.specs.Terms.{Symbol, Constant, Term, Bound, App, Terms, no_terms, term_then}
use Rattle.ss_logic.specs.Formulas.{Formula, Literal, And, Or, Forall, Exists, Formulas, no_formulas, formula_then}

abbrev pub number_of_symbol : Symbol → ℕ
number_of_symbol (Constant s k) = k
number_of_symbol f = 0

abbrev mutual
  pub highest_of_term : Term → ℕ
  highest_of_term (Bound i) = 0
  highest_of_term (App f ts) = max (number_of_symbol f) (highest_of_terms ts)

  pub highest_of_terms : Terms → ℕ
  highest_of_terms no_terms = 0
  highest_of_terms (term_then t ts) = max (highest_of_term t) (highest_of_terms ts)

abbrev mutual
  pub highest : Formula → ℕ
  highest (Literal sign p ts) = highest_of_terms ts
  highest (And fs) = highest_of_all fs
  highest (Or fs) = highest_of_all fs
  highest (Forall ss f) = highest f
  highest (Exists ss f) = highest f

  pub highest_of_all : Formulas → ℕ
  highest_of_all no_formulas = 0
  highest_of_all (formula_then f fs) = max (highest f) (highest_of_all fs)
