-- What is read of values and of the objects of a store. What isn't there reads as nothing, so that each read has a value.
use Rattle.std.specs.Prelude.{ℕ, ℤ, pos, List, [], length, Bool, true, false, not, ◌==◌, ◌&&◌, ◌||◌, nat_lt, Option, Some, None, unwrap_or, slice_get}
use Rattle.std.specs.Bool.{beq}
use Rattle.std.specs.List.{list_all}
use Rattle.std.specs.Ordering.{int_eq}
use Rattle.ss_core.specs.Tree.{ClassTree}
use Rattle.ss_core.specs.Chain.{sub, DeclaredField, all_fields}
use Rattle.ss_store_rules.specs.declared.Value.{Value}
use Rattle.ss_store_rules.specs.declared.Value.TheVariants as value
use Rattle.ss_store_rules.specs.declared.Owner.{Owner}
use Rattle.ss_store_rules.specs.declared.Owner.TheVariants as owner
use Rattle.ss_store_rules.specs.Store.{Slot, Object, field_value, default_value}

-- ---- values

-- a value that is no number counts as 0, and one that is no truth value as false
abbrev pub as_int : Value → ℤ
as_int (value.Int n) = n
as_int (value.Bool b) = pos 0
as_int (value.Obj o) = pos 0
as_int value.Null = pos 0

abbrev pub as_bool : Value → Bool
as_bool (value.Int n) = false
as_bool (value.Bool b) = b
as_bool (value.Obj o) = false
as_bool value.Null = false

abbrev pub same_value : Value → Value → Bool
same_value (value.Int m) (value.Int n) = int_eq m n
same_value (value.Bool a) (value.Bool b) = beq a b
same_value (value.Obj o) (value.Obj q) = o == q
same_value value.Null value.Null = true
same_value v w = false

-- it refers to an object of which this is true
abbrev pub is_object_with : Value → (ℕ → Bool) → Bool
is_object_with (value.Obj o) test = test o
is_object_with v test = false

-- it is null, or refers to an object of which this is true
abbrev pub is_null_or : Value → (ℕ → Bool) → Bool
is_null_or (value.Obj o) test = test o
is_null_or v test = true

-- ---- owners

abbrev pub same_owner : Owner → Owner → Bool
same_owner (owner.Group g) (owner.Group h) = g == h
same_owner (owner.Owned o t) (owner.Owned q u) = o == q && t.0 == u.0
same_owner v w = false

abbrev pub is_group : Owner → Bool
is_group (owner.Group g) = true
is_group (owner.Owned o t) = false

abbrev pub is_in_group : ℕ → Owner → Bool
is_in_group g (owner.Group h) = h == g
is_in_group g (owner.Owned o t) = false

-- it is the pair of this object and this class
abbrev pub is_pair : ℕ → ℕ → Owner → Bool
is_pair o t (owner.Group g) = false
is_pair o t (owner.Owned q u) = q == o && u.0 == t

-- it is a pair of this object and this class or one above it
abbrev pub is_pair_upto : List ClassTree → ℕ → ℕ → Owner → Bool
is_pair_upto cs o t (owner.Group g) = false
is_pair_upto cs o t (owner.Owned q u) = q == o && sub cs t u.0

-- ---- objects

-- what stands where no object is
abbrev pub no_object : Object
no_object = record {
  class = 0;
  fields = [];
  elements = [];
  level = 0;
  committed = false;
  owner = owner.Group 0;
  ready = false;
}

abbrev pub object_at : List Object → ℕ → Object
object_at s o = unwrap_or (slice_get s o) no_object

abbrev pub is_allocated : List Object → ℕ → Bool
is_allocated s o = nat_lt o (length s)

abbrev pub field_read : Object → ℕ → Value
field_read x f = unwrap_or (field_value x f) value.Null

abbrev pub element_read : Object → ℕ → Value
element_read x i = unwrap_or (slice_get x.elements i) value.Null

-- the level is the class
abbrev pub is_full : Object → Bool
is_full x = x.level == x.class

-- what a field holds, where t or a class above it declares the field, is the default of its type
abbrev pub is_default_upto : List ClassTree → ℕ → Option DeclaredField → Value → Bool
is_default_upto cs t None v = true
is_default_upto cs t (Some d) v = not (sub cs t d.class) || same_value v (default_value d.field.ty)

abbrev pub are_default_upto : List ClassTree → ℕ → List Slot → Bool
are_default_upto cs t slots = list_all (λ y. is_default_upto cs t (slice_get (all_fields cs) y.field) y.content) slots

abbrev pub at_defaults : List ClassTree → ℕ → Object → Bool
at_defaults cs t x = are_default_upto cs t x.fields

-- each object owned by o at t or a class above it is at its full level
abbrev pub owned_are_full : List ClassTree → List Object → ℕ → ℕ → Bool
owned_are_full cs s o t = list_all (λ x. not (is_pair_upto cs o t x.owner) || is_full x) s

-- each member of the group is at its full level
abbrev pub members_are_full : List Object → ℕ → Bool
members_are_full s g = list_all (λ x. not (is_in_group g x.owner) || is_full x) s
