-- Stores: lists of objects. A reference is a position in the list.
use Rattle.std.specs.Prelude.{ℕ, pos, List, [], ◌∷◌, Bool, false, ◌==◌, if◌then◌else◌, Option, Some, None}
use Rattle.ss_core.specs.declared.names.Ty.{Ty}
use Rattle.ss_core.specs.declared.names.Ty.TheVariants as ty
use Rattle.ss_store_rules.specs.declared.Value.{Value}
use Rattle.ss_store_rules.specs.declared.Value.TheVariants as value
use Rattle.ss_store_rules.specs.declared.Owner.{Owner}

-- a field of an object: the field's number, and its value
pub record Slot : Type 0 where
  pub field : ℕ
  pub content : Value

-- An object: its class, its fields, its elements where it is an array, its level (JOT 2004), whether it is committed, its owner
-- (ECOOP 2004), and whether it is ready, so that its non-null fields have their values (OOPSLA 2003).
pub record Object : Type 0 where
  pub class : ℕ
  pub fields : List Slot
  pub elements : List Value
  pub level : ℕ
  pub committed : Bool
  pub owner : Owner
  pub ready : Bool

-- the content of the first slot of the field
abbrev pub slot_value : List Slot → ℕ → Option Value
slot_value [] f = None
slot_value (x ∷ xs) f = if x.field == f then Some x.content else slot_value xs f

abbrev pub field_value : Object → ℕ → Option Value
field_value x f = slot_value x.fields f

-- what a new field, or a new element, of the type has
abbrev pub default_value : Ty → Value
default_value ty.Int = value.Int (pos 0)
default_value ty.Bool = value.Bool false
default_value ty.Null = value.Null
default_value (ty.Ref t n) = value.Null
