-- Later stores: what a frame relies on beside older objects.
use Rattle.std.specs.Prelude.{◌≡◌, ℕ, ◌<◌, List, true, Some, slice_get}
use Rattle.ss_core.specs.Tree.{ClassTree}
use Rattle.ss_store_rules.specs.declared.Value.TheVariants as value
use Rattle.ss_store_rules.specs.Store.{Object, field_value}
use Rattle.ss_store_rules.specs.Changes.{field_type}
use Rattle.ss_store_rules.specs.Good.{is_non_null}
use Rattle.ss_machine_typed.specs.Older.{IsOlder}

-- The store before is older, and the object of each position below n that is ready now was so.
pub record IsLater (cs : List ClassTree) (n : ℕ) (before now : List Object) : Type 0 where
  pub older : IsOlder before now
  -- a non-null field that is null now was so before
  pub fields : (o f : ℕ) (x y : Object) → slice_get before o ≡ Some x → slice_get now o ≡ Some y → is_non_null (field_type cs f) ≡ true → field_value y f ≡ Some value.Null → field_value x f ≡ Some value.Null
  pub ready : (o : ℕ) (x y : Object) → o < n → slice_get before o ≡ Some x → slice_get now o ≡ Some y → y.ready ≡ true → x.ready ≡ true
