-- What the expressions of code have where their parts were checked: values, and meanings that have these.
use Rattle.std.specs.Prelude.{◌≡◌, ℕ, List, [], ◌∷◌, Bool, Ok}
use Rattle.ss_core.specs.Tree.{ExprTree}
use Rattle.ss_store_rules.specs.declared.Value.{Value as ObjectValue}
use Rattle.ss_store_rules.specs.Store.{Object}
use Rattle.ss_store_rules.specs.Types.{code_type}
use Rattle.ss_store_rules.specs.Values as run
use Rattle.ss_machine_rules.specs.Steps.{values_of}
use Rattle.ss_logic.specs.Values.{Table, sort_of_value, Structure}
use Rattle.ss_logic.specs.Express.{choices, element_sort}
use Rattle.ss_logic_means.specs.Means.{standing, Denotes}
use Rattle.ss_logic_means.specs.Sorts.{HaveSort}
use Rattle.ss_vcgen_heaps.specs.Positions.{Position, Walk, meant_at, evaluate, evaluate_all}
use Rattle.ss_sound_outcomes.specs.Points.{Point, scene}
use Rattle.ss_vcgen_safe.specs.At.{Stays, activation, IsAt}

-- What the expression means at the position has the value, which is of the sort of the expression's type.
pub record HasMeaning (w : Walk) (m : Structure) (k : Position) (e : ExprTree) (v : ObjectValue) : Type 0 where
  pub is : Stays k.next m (λ m'. Denotes w.program.classes m' [] (meant_at w e k) (standing v))
  pub sorted : HaveSort w.program.classes [] (element_sort (code_type w.program.classes w.body e)) (choices (meant_at w e k))
  pub of : sort_of_value (standing v) ≡ element_sort (code_type w.program.classes w.body e)

-- each of these expressions has the meaning beside it
abbrev pub HaveMeanings : Walk → Structure → Position → List ExprTree → List ObjectValue → Type 0
HaveMeanings w m k [] [] = Unit {0}
HaveMeanings w m k [] (v ∷ vs) = ⊥
HaveMeanings w m k (e ∷ es) [] = ⊥
HaveMeanings w m k (e ∷ es) (v ∷ vs) = HasMeaning w m k e v × HaveMeanings w m k es vs

-- The expression has a value, which is what it means, and its parts have been checked.
pub record IsEvaluated (w : Walk) (before : List Object) (table : Table) (xs : ℕ → Bool) (m : Structure) (k : Position) (p : Point) (e : ExprTree) : Type 0 where
  pub value : ObjectValue
  pub is : run.value_of e (scene (activation w before table) p) ≡ Ok value
  pub at : IsAt w before table xs m (evaluate w e k) p
  pub means : HasMeaning w m k e value

-- So have these, one after the other.
pub record AreEvaluated (w : Walk) (before : List Object) (table : Table) (xs : ℕ → Bool) (m : Structure) (k : Position) (p : Point) (es : List ExprTree) : Type 0 where
  pub values : List ObjectValue
  pub are : values_of es (scene (activation w before table) p) ≡ Ok values
  pub at : IsAt w before table xs m (evaluate_all w es k) p
  pub mean : HaveMeanings w m k es values
  -- and there still
  pub still : HaveMeanings w m (evaluate_all w es k) es values
