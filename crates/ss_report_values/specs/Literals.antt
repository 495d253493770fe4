-- What a model says that a term is: the literal in its class.
use Rattle.std.specs.Prelude.{ℕ, ◌==◌, List, [], ◌∷◌, Bool, Option, Some, None, option_and_then, slice_get, if◌then◌else◌}
use Rattle.ss_logic.specs.Terms.{Number, Fixed, Null, Term, App, no_terms}
use Rattle.ss_logic.specs.Equal.{same_term}
use Rattle.ss_logic_countermodels.specs.Refuting.{place_among}
use Rattle.ss_report_values.specs.declared.literals.Value.{Value}
use Rattle.ss_report_values.specs.declared.literals.Value.TheVariants as value

-- a number, a truth value or null
abbrev pub value_of : Term → Option Value
value_of (App (Number n) no_terms) = Some (value.Number n)
value_of (App (Fixed b) no_terms) = Some (value.Truth b)
value_of (App Null no_terms) = Some value.Null
value_of t = None

abbrev pub value_or : Option Value → Option Value → Option Value
value_or (Some v) o = Some v
value_or None o = o

abbrev pub value_where : Bool → Term → Option Value
value_where is_in t = if is_in then value_of t else None

-- the first value of a class, of terms with these classes
abbrev pub value_in : List Term → List ℕ → ℕ → Option Value
value_in [] ns n = None
value_in (t ∷ ts) [] n = None
value_in (t ∷ ts) (k ∷ ns) n = value_or (value_where (k == n) t) (value_in ts ns n)

-- the class of the term; nothing where the term doesn't stand among them
abbrev pub class_at : List Term → List ℕ → Term → Option ℕ
class_at ts ns t = slice_get ns (place_among (same_term t) ts)

-- the value in the class of the term
abbrev pub value_at : List Term → List ℕ → Term → Option Value
value_at ts ns t = option_and_then (value_in ts ns) (class_at ts ns t)
