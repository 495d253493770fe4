-- When classes of terms contradict known literals, and the model that they are where they don't.
use Rattle.std.specs.Prelude.{◌≡◌, ◌≢◌, ℕ, List, [], ◌∷◌, map, Bool, true, false, ◌&&◌, ◌==◌}
use Rattle.std.specs.List.{Contains, list_any}
use Rattle.ss_logic.specs.Terms.{Symbol, Term, App, Terms, no_terms, term_then, term_list}
use Rattle.ss_logic.specs.Formulas.{Predicate, Equal, Formula, Literal, neg}
use Rattle.ss_logic.specs.Equal.{same_predicate, same_formula}
use Rattle.ss_logic_means.specs.Steps.{is_value}
use Rattle.ss_logic.specs.Occurring.{terms}
use Rattle.ss_logic_countermodels.specs.Refuting.{Model, same_classes}
use Rattle.ss_search_procedure_rules.specs.Closed.{is_basic}

abbrev pub Classing : Type 0
Classing = Term → ℕ

abbrev pub classes_in : Classing → Terms → List ℕ
classes_in class ts = map class (term_list ts)

-- an atom of this name at arguments in these classes
abbrev pub is_said_by : Predicate → List ℕ → Classing → Formula → Bool
is_said_by p ns class (Literal true q us) = same_predicate p q && same_classes ns (classes_in class us)
is_said_by p ns class f = false

-- An equality is true inside a class, another atom where a known one says so.
abbrev pub atom_by : Classing → List Formula → Predicate → List ℕ → Bool
atom_by class known Equal (a ∷ b ∷ []) = a == b
atom_by class known p ns = list_any (is_said_by p ns class) known

-- a quantified formula is true where it is known
abbrev pub truth_by : Classing → List Formula → Formula → Bool
truth_by class known (Literal sign p ts) = atom_by class known p (classes_in class ts)
truth_by class known f = list_any (same_formula f) known

abbrev pub model_by : Classing → List Formula → Model
model_by class known = record { class = class; truth = truth_by class known }

-- The classes are those of a congruence in which known literals hold, and different values have different ones.
pub record FitsClasses (class : Classing) (known : List Formula) : Type 0 where
  pub basic : (f : Formula) → Contains known f → is_basic f ≡ true
  pub congruent : (f : Symbol) (ts us : Terms) → Contains (terms known) (App f ts) → Contains (terms known) (App f us) → classes_in class ts ≡ classes_in class us → class (App f ts) ≡ class (App f us)
  pub equal : (x y : Term) → Contains known (Literal true Equal (term_then x (term_then y no_terms))) → class x ≡ class y
  pub different : (x y : Term) → Contains known (Literal false Equal (term_then x (term_then y no_terms))) → class x ≢ class y
  pub values : (x y : Term) → Contains (terms known) x → Contains (terms known) y → is_value x ≡ true → is_value y ≡ true → class x ≡ class y → x ≡ y
  pub agreeing : (p : Predicate) (ts us : Terms) → Contains known (Literal true p ts) → Contains known (Literal false p us) → classes_in class ts ≡ classes_in class us → ⊥
  pub unopposed : (f : Formula) → Contains known f → Contains known (neg f) → ⊥
