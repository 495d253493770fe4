-- The terms of the locals at a position.
use Rattle.std.specs.Prelude.{◌≡◌, ℕ, List, [], Bool, true, Option, Some, slice_get}
use Rattle.ss_core.specs.declared.names.Ty.{Ty}
use Rattle.ss_core.specs.Tree.{ClassTree}
use Rattle.ss_store_rules.specs.declared.Value.{Value as ObjectValue}
use Rattle.ss_logic.specs.Values.{Value, Structure}
use Rattle.ss_logic.specs.Terms.{Term, sort_of_type, value_of}
use Rattle.ss_logic_means.specs.Means.{standing}
use Rattle.ss_logic_means.specs.Sorts.{HasSort}

-- each of these locals has a term, with its value, whatever the bound names stand for
abbrev pub HaveValues : List ClassTree → Structure → (ℕ → Bool) → List (Option Term) → List ObjectValue → Type 0
HaveValues cs m among locals values =
    (x : ℕ) (v : ObjectValue) → among x ≡ true → slice_get values x ≡ Some v → (t : Term) × (slice_get locals x ≡ Some (Some t)) × ((e : List Value) → value_of cs m e t ≡ standing v)

-- each of these locals has a term, of the sort of its type
abbrev pub HaveSorts : List ClassTree → (ℕ → Bool) → List (Option Term) → List Ty → Type 0
HaveSorts cs among locals types = (x : ℕ) (t : Ty) → among x ≡ true → slice_get types x ≡ Some t → (u : Term) × (slice_get locals x ≡ Some (Some u)) × HasSort cs [] (sort_of_type t) u
