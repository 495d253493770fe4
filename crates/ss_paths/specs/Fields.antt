-- The fields of a class, by number.
use Rattle.std.specs.Prelude.{ℕ, ◌+◌, ◌-◌, List, [], length, sum_by, take, Bool, ◌&&◌, nat_le, nat_lt, Option, Some, None, slice_get}
use Rattle.ss_core.specs.Tree as core
pub use Rattle.ss_core.specs.Types.{is_non_null}
use Rattle.ss_core.specs.Chain.{fields_of}
use Rattle.ss_typed.specs.Tree.{FieldTree, MembersTree, TypedTree}
use Rattle.ss_typed.specs.Lookups.{class_place}

-- the fields that the class declares
abbrev pub own_fields : TypedTree → ℕ → List core.FieldTree
own_fields p t = fields_of (slice_get p.classes (class_place t))

abbrev pub fields_of_members : Option MembersTree → List FieldTree
fields_of_members None = []
fields_of_members (Some m) = m.fields

-- the same fields, each with what it begins with
abbrev pub written_fields : TypedTree → ℕ → List FieldTree
written_fields p t = fields_of_members (slice_get p.members (class_place t))

-- ---- numbers

abbrev pub field_count : core.ClassTree → ℕ
field_count c = length c.fields

-- the numbers of the fields that a class declares: the first one, and how many there are
pub record Numbers : Type 0 where
  pub first : ℕ
  pub count : ℕ

-- fields are numbered over the whole program in order of declaration
abbrev pub field_numbers : TypedTree → ℕ → Numbers
field_numbers p t = record { first = sum_by field_count (take (class_place t) p.classes); count = length (own_fields p t) }

abbrev pub is_among : Numbers → ℕ → Bool
is_among n f = nat_le n.first f && nat_lt (f - n.first) n.count
