-- What it is that terms and formulas say of a value: in a structure, at values of the bound names.
use Rattle.std.specs.Prelude.{◌≡◌, List, [], ◌∷◌, Bool, true, Ok, Err}
use Rattle.ss_core.specs.Tree.{ClassTree}
use Rattle.ss_store_rules.specs.declared.Value.{Value as ObjectValue}
use Rattle.ss_store_rules.specs.declared.Value.TheVariants as value
use Rattle.ss_store_rules.specs.Numbers.{Outcome}
use Rattle.ss_logic.specs.Values.{null, reference, Value, whole, truth, thing, Structure}
use Rattle.ss_logic.specs.Terms.{value_of}
use Rattle.ss_logic.specs.Formulas.{Formula, True, AllTrue, formulas_from}
use Rattle.ss_logic.specs.Express.{Choice, Meant, choices}

-- a value of a run as one of a term
abbrev pub standing : ObjectValue → Value
standing (value.Int n) = whole n
standing (value.Bool b) = truth b
standing (value.Obj o) = thing (reference o)
standing value.Null = thing null

-- the formula is true exactly where the test is
abbrev pub Means : List ClassTree → Structure → List Value → Formula → Bool → Type 0
Means cs m e f b = (True cs m e f → b ≡ true) × (b ≡ true → True cs m e f)

-- each choice whose condition is true has the value
abbrev pub Agree : List ClassTree → Structure → List Value → List Choice → Value → Type 0
Agree cs m e [] v = Unit {0}
Agree cs m e (c ∷ xs) v = (True cs m e c.condition → value_of cs m e c.value ≡ v) × Agree cs m e xs v

-- no condition is true
abbrev pub NoneOf : List ClassTree → Structure → List Value → List Choice → Type 0
NoneOf cs m e [] = Unit {0}
NoneOf cs m e (c ∷ xs) = (True cs m e c.condition → ⊥) × NoneOf cs m e xs

-- What is meant has the value: some condition is true, and where one is, its term has that value.
pub record Denotes (cs : List ClassTree) (m : Structure) (e : List Value) (x : Meant) (v : Value) : Type 0 where
  pub agree : Agree cs m e (choices x) v
  pub some : NoneOf cs m e (choices x) → ⊥

-- The parts are true exactly where the outcome is a value, and what is meant has that value.
abbrev pub Reads : List ClassTree → Structure → List Value → List Formula → Meant → Outcome → Type 0
Reads cs m e ps x (Ok u) = AllTrue cs m e (formulas_from ps) × Denotes cs m e x (standing u)
Reads cs m e ps x (Err u) = AllTrue cs m e (formulas_from ps) → ⊥
