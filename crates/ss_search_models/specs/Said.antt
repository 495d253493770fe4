-- What was given to the functions, atoms and values of a model, and what follows of two of them.
use Rattle.std.specs.Prelude.{◌≡◌, ◌==◌, List, Bool, true, Option, Some, None}
use Rattle.std.specs.List.{list_all}
use Rattle.std.specs.Bool.{beq}
use Rattle.ss_logic.specs.Terms.{Term, Bound, App, Terms, no_terms, term_then}
use Rattle.ss_logic.specs.Formulas.{Formula, Literal, And, Or, Forall, Exists}
use Rattle.ss_logic_means.specs.Steps.{is_value}
use Rattle.ss_logic_countermodels.specs.Refuting.{Model, classes_of, are_congruent, are_alike, are_apart, implies}
use Rattle.ss_terms.specs.declared.forms.TermId.{TermId}
use Rattle.ss_terms.specs.Forms.{Forms, term_at}
use Rattle.ss_search_models.specs.declared.signatures.Given.TheVariants as given
use Rattle.ss_search_models.specs.Keys.{FunctionKey, AtomKey, ValueKey, Givens, given_to}

-- the class of the term was given to its function at the classes of its arguments
abbrev pub IsFunctionSaid : Givens → Model → Term → Type 0
IsFunctionSaid gs m (App f ts) = given_to gs (FunctionKey f (classes_of m ts)) ≡ Some (given.Class (m.class (App f ts)))
IsFunctionSaid gs m (Bound k) = Unit {0}

-- the truth value of the atom was given to its predicate at the classes of its arguments
abbrev pub IsAtomSaid : Givens → Model → Formula → Type 0
IsAtomSaid gs m (Literal sign p ts) = given_to gs (AtomKey p (classes_of m ts)) ≡ Some (given.Truth (m.truth (Literal sign p ts)))
IsAtomSaid gs m (And fs) = Unit {0}
IsAtomSaid gs m (Or fs) = Unit {0}
IsAtomSaid gs m (Forall ss f) = Unit {0}
IsAtomSaid gs m (Exists ss f) = Unit {0}

-- the value was given to its class
abbrev pub IsValueSaid : Givens → Forms → Model → TermId → Type 0
IsValueSaid gs b m t = is_value (term_at b t) ≡ true → given_to gs (ValueKey (m.class (term_at b t))) ≡ Some (given.Value t)

-- ---- of each two of a list

abbrev pub are_functions_of_classes : Model → List Term → Bool
are_functions_of_classes m ts = list_all (λ s. list_all (λ t. implies (are_congruent m s t) (m.class s == m.class t)) ts) ts

abbrev pub are_atoms_of_classes : Model → List Formula → Bool
are_atoms_of_classes m fs = list_all (λ f. list_all (λ g. implies (are_alike m f g) (beq (m.truth f) (m.truth g))) fs) fs

abbrev pub are_values_apart : Model → List Term → Bool
are_values_apart m ts = list_all (λ s. list_all (are_apart m s) ts) ts

-- ---- an equality

-- whether two terms are in one class; nothing where there aren't two
abbrev pub equality_of : Model → Terms → Option Bool
equality_of m (term_then x (term_then y no_terms)) = Some (m.class x == m.class y)
equality_of m ts = None

abbrev pub is_right : Bool → Option Bool → Bool
is_right truth None = true
is_right truth (Some is_one) = beq truth is_one
