-- What each change of a store keeps: that it is good.
use Rattle.std.specs.Prelude.{◌≡◌, ℕ, List, true, false, Some, slice_get}
use Rattle.ss_core.specs.Tree.{ClassTree}
use Rattle.ss_core.specs.Chain.{below, IsChain}
use Rattle.ss_store_rules.specs.declared.Value.{Value}
use Rattle.ss_store_rules.specs.declared.Value.TheVariants as value
use Rattle.ss_store_rules.specs.Store.{Object, field_value}
use Rattle.ss_store_rules.specs.Changes.{element_type, field_type, packed}
use Rattle.ss_store_rules.specs.Good.{has_type, is_non_null, IsReady, IsGood}
use Rattle.ss_store_rules.specs.Admissible.{AreAdmissible, invariants_hold}

-- of a program with these classes, whose class chain is one and whose invariants are admissible, a good store stays good
abbrev pub Keeps : List ClassTree → List Object → List Object → Type 0
Keeps cs s s' = IsChain cs → AreAdmissible cs → IsGood cs (invariants_hold cs) s → IsGood cs (invariants_hold cs) s'

-- where the value refers to an object, that is of the class t or below it
abbrev pub IsOf : List ClassTree → List Object → Value → ℕ → Type 0
IsOf cs s v t = (o : ℕ) (x : Object) → v ≡ value.Obj o → slice_get s o ≡ Some x → below cs x.class t ≡ true

-- The value may stand in the field.
pub record MayStandIn (cs : List ClassTree) (s : List Object) (f : ℕ) (v : Value) : Type 0 where
  -- it is of the field's type
  pub typed : has_type cs s (field_type cs f) v ≡ true
  pub ready : IsReady s v
  -- it isn't null where the type is non-null
  pub non_null : v ≡ value.Null → is_non_null (field_type cs f) ≡ false

-- where the value refers to an array, v is of the type of its elements
abbrev pub IsElement : List ClassTree → List Object → Value → Value → Type 0
IsElement cs s a v = (o : ℕ) (x : Object) → a ≡ value.Obj o → slice_get s o ≡ Some x → has_type cs s (element_type x.class) v ≡ true

-- the object at o is allocated, and isn't packed at t
abbrev pub IsUnpacked : List ClassTree → List Object → ℕ → ℕ → Object → Type 0
IsUnpacked cs s o t x = (slice_get s o ≡ Some x) × (packed cs x t ≡ false)

-- no non-null field of the object at o is null
abbrev pub HasItsFields : List ClassTree → List Object → ℕ → Type 0
HasItsFields cs s o = (x : Object) (f : ℕ) → slice_get s o ≡ Some x → field_value x f ≡ Some value.Null → is_non_null (field_type cs f) ≡ false
