-- What the numbers of classes stand for.
use Rattle.std.specs.Prelude.{ℕ, Bool, true, false, ◌==◌, ◌&&◌, ◌+◌, ◌-◌, ◌*◌, ◌/◌, ◌%◌, nat_le, if◌then◌else◌, Option, Some, None}
use Rattle.ss_core.specs.declared.names.Ty.{Ty}
use Rattle.ss_core.specs.declared.names.Ty.TheVariants as ty
use Rattle.ss_core.specs.declared.class_kind.ClassKind.{ClassKind}
use Rattle.ss_core.specs.declared.class_kind.ClassKind.TheVariants as kind

-- the number of the declared class at place k of the table, and that of its arrays
abbrev pub class_number : ℕ → ℕ
class_number k = 4 + 2 * k

abbrev pub array_number : ℕ → ℕ
array_number k = 5 + 2 * k

-- the place of the declared class with this number
abbrev pub declared_place : ℕ → Option ℕ
declared_place t = if nat_le 4 t && t % 2 == 0 then Some ((t - 4) / 2) else None

-- the place in the list of classes, where it is the number of a declared class or of its arrays
abbrev pub class_place : ℕ → ℕ
class_place t = (t - 4) / 2

-- an array of `int`, `bool`, `object` or a declared class
abbrev pub is_array_number : ℕ → Bool
is_array_number t = if nat_le 4 t then t % 2 == 1 else nat_le 1 t

-- `object`, and the arrays of `int`, `bool` and `object`
abbrev pub basic_kind : ℕ → ClassKind
basic_kind t = if t == 0 then kind.Object else if t == 1 then kind.Ints else if t == 2 then kind.Bools else kind.Objects

abbrev pub kind_of : ℕ → ClassKind
kind_of t = if nat_le 4 t then (if t % 2 == 0 then kind.Declared ((t - 4) / 2) else kind.ArrayOf ((t - 4) / 2)) else basic_kind t

-- the place of the declared class
abbrev pub place_of : ClassKind → Option ℕ
place_of (kind.Declared k) = Some k
place_of _ = None

abbrev pub is_array : ClassKind → Bool
is_array kind.Object = false
is_array (kind.Declared k) = false
is_array _ = true

-- The elements of an array by its class: `int[]` is 1, `bool[]` 2, `object[]` 3, and the array of a declared class comes after it.
-- References among them may be null.
abbrev pub element_type : ℕ → Ty
element_type t =
    if t == 1 then ty.Int
    else if t == 2 then ty.Bool
    else if t == 3 then ty.Ref (record { 0 = 0 }) false
    else ty.Ref (record { 0 = t - 1 }) false
