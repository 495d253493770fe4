-- What it means that something is known where code is reached.
use Rattle.std.specs.Prelude.{◌≡◌, ℕ, Bool, true, false, Some, slice_get, slice_set}
use Rattle.ss_core.specs.Tree.{BodyTree}
use Rattle.ss_store_rules.specs.declared.Value.{Value}
use Rattle.ss_store_rules.specs.declared.Value.TheVariants as value
use Rattle.ss_store_rules.specs.Store.{Object, field_value}
use Rattle.ss_store_rules.specs.Values.{Setting, local_value}
use Rattle.ss_store_rules.specs.Changes.{field_type}
use Rattle.ss_store_rules.specs.Good.{is_non_null}
use Rattle.ss_store_rules.specs.Locals.{local_types}
use Rattle.ss_store_rules.specs.NonNull.{Facts, Known, is_non_null_type}

abbrev pub IsNotNull : Value → Type 0
IsNotNull v = v ≡ value.Null → ⊥

-- these locals aren't null
abbrev pub AreNotNull : Facts → Setting → Type 0
AreNotNull facts c = (x : ℕ) → facts x ≡ true → IsNotNull (local_value c x)

-- where the local x has this truth value, that is reached, and what is known there is so
pub record IsSide (k : Known) (c : Setting) (x : ℕ) (v : Bool) : Type 0 where
  pub facts : Facts
  pub there : k.sides x v ≡ Some facts
  pub so : AreNotNull facts c

-- the field of the object in the first local isn't null, where its type is non-null
abbrev pub HasItsField : Setting → ℕ → Type 0
HasItsField c f = (o : ℕ) (x : Object) → local_value c 0 ≡ value.Obj o → slice_get c.store o ≡ Some x → field_value x f ≡ Some value.Null → is_non_null (field_type c.classes f) ≡ false

-- What is known is so. In a constructor that goes for the fields of its `this` too.
pub record IsTrueOf (constructs : Bool) (k : Known) (c : Setting) : Type 0 where
  pub facts : AreNotNull k.facts c
  pub sides : (x : ℕ) (v : Bool) → local_value c x ≡ value.Bool v → IsSide k c x v
  pub fields : constructs ≡ true → (f : ℕ) → k.fields f ≡ true → HasItsField c f

-- the assigned locals of non-null types aren't null
abbrev pub AreAssigned : BodyTree → (ℕ → Bool) → Setting → Type 0
AreAssigned b xs c = (x : ℕ) → xs x ≡ true → is_non_null_type (slice_get (local_types b) x) ≡ true → IsNotNull (local_value c x)

-- What is ready now and was there at the entry was ready there. In a constructor that isn't asked.
abbrev pub WasReady : Bool → Setting → Type 0
WasReady constructs c = constructs ≡ false → (o : ℕ) (x y : Object) → slice_get c.entry o ≡ Some x → slice_get c.store o ≡ Some y → y.ready ≡ true → x.ready ≡ true

-- where the local x gets the value
abbrev pub with_value : Setting → ℕ → Value → Setting
with_value c x v = record c { locals = slice_set c.locals x v }
