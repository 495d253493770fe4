-- The class chain (JOT 2004): above each declared class is another one, and so on to `object`.
use Rattle.std.specs.Prelude.{◌≡◌, ◌≤◌, ℕ, zero, suc, List, [], ◌∷◌, ◌++◌, length, map, sum_by, Bool, true, false, ◌==◌, ◌&&◌, ◌||◌, ◌+◌, ◌*◌, ◌-◌, ◌/◌, ◌%◌, nat_le, nat_lt, if◌then◌else◌, Option, Some, None, slice_get}
use Rattle.std.specs.List.{list_any, list_all}
use Rattle.ss_core.specs.declared.names.Ty.{Ty}
use Rattle.ss_core.specs.declared.names.Ty.TheVariants as ty
use Rattle.ss_core.specs.Tree.{ClassTree, EntryTree, FieldTree}

-- the number of a declared class is 4 and twice its place, from 0
abbrev pub is_declared : List ClassTree → ℕ → Bool
is_declared cs t = nat_le 4 t && t % 2 == 0 && nat_le (t + 1) (4 + 2 * length cs)

abbrev pub declared : List ClassTree → ℕ → Option ClassTree
declared cs t = if nat_le 4 t && t % 2 == 0 then slice_get cs ((t - 4) / 2) else None

abbrev pub table_of : Option ClassTree → List EntryTree
table_of None = []
table_of (Some c) = c.table

-- the table of methods of a class; one that isn't declared has none
abbrev pub table : List ClassTree → ℕ → List EntryTree
table cs t = table_of (declared cs t)

-- the names of methods of a table, in order
abbrev pub names_of : List EntryTree → List (List ℕ)
names_of es = map (λ (e : EntryTree). e.name) es

-- `object`, 0, is above each class that isn't declared
abbrev pub above_of : Option ClassTree → ℕ
above_of None = 0
above_of (Some c) = c.above

abbrev pub above : List ClassTree → ℕ → ℕ
above cs t = above_of (declared cs t)

-- the class above, which `object` alone has not
abbrev pub level_above : List ClassTree → ℕ → Option ℕ
level_above cs t = if t == 0 then None else Some (above cs t)

-- the class, the one above it, and so on to `object`, at most n of them
abbrev pub levels_from : List ClassTree → ℕ → ℕ → List ℕ
levels_from cs zero t = []
levels_from cs (suc n) t = t ∷ (if t == 0 then [] else levels_from cs n (above cs t))

-- how many levels a class has at most
unfoldable pub most_levels : ℕ
most_levels = 64

-- how many classes stand at most between a class and `object`, itself counted
abbrev pub most_above : ℕ
most_above = 63

unfoldable pub levels : List ClassTree → ℕ → List ℕ
levels cs t = levels_from cs most_levels t

abbrev pub also_of : Option ClassTree → List ℕ
also_of None = []
also_of (Some c) = c.also

abbrev pub also : List ClassTree → ℕ → List ℕ
also cs t = also_of (declared cs t)

-- t is this level, or stands beside it
abbrev pub counts_as : List ClassTree → ℕ → ℕ → Bool
counts_as cs t level = level == t || list_any (λ u. u == t) (also cs level)

-- c is t or below it
unfoldable pub sub : List ClassTree → ℕ → ℕ → Bool
sub cs c t = list_any (counts_as cs t) (levels cs c)

-- t is one of the levels of c
unfoldable pub below : List ClassTree → ℕ → ℕ → Bool
below cs c t = list_any (λ level. level == t) (levels cs c)

-- ---- fields, numbered over the whole program in order of declaration

-- a field with the number of the class that declares it
pub record DeclaredField : Type 0 where
  pub class : ℕ
  pub field : FieldTree

abbrev pub in_class : ℕ → FieldTree → DeclaredField
in_class t f = record { class = t; field = f }

abbrev pub fields_of_class : ℕ → List FieldTree → List DeclaredField
fields_of_class t fs = map (in_class t) fs

-- the fields of these classes, of which the first has the number t
abbrev pub fields_from : ℕ → List ClassTree → List DeclaredField
fields_from t [] = []
fields_from t (c ∷ cs) = fields_of_class t c.fields ++ fields_from (t + 2) cs

abbrev pub all_fields : List ClassTree → List DeclaredField
all_fields cs = fields_from 4 cs

-- a class of the table declares the field
pub record IsDeclaredField (cs : List ClassTree) (d : DeclaredField) : Type 0 where
  pub by : ClassTree
  pub is_class : declared cs d.class ≡ Some by
  pub place : ℕ
  pub is_there : slice_get by.fields place ≡ Some d.field

-- ---- what a table of classes keeps

-- the number of `object`, of an array class or of a declared class
abbrev pub is_class : List ClassTree → ℕ → Bool
is_class cs t = nat_lt t (4 + 2 * length cs)

-- `object` or a declared class
abbrev pub is_superclass : List ClassTree → ℕ → Bool
is_superclass cs t = t == 0 || is_declared cs t

-- a type that a declaration may have
abbrev pub is_type : List ClassTree → Ty → Bool
is_type cs ty.Int = true
is_type cs ty.Bool = true
is_type cs ty.Null = false
is_type cs (ty.Ref t non_null) = is_class cs t.0

-- the class above is `object` or a declared one, and the types beside it and those of its fields have numbers of the table
abbrev pub has_numbers : List ClassTree → ClassTree → Bool
has_numbers cs c = is_superclass cs c.above && list_all (is_class cs) c.also && list_all (λ f. is_type cs f.ty) c.fields

-- numbers are in range, and the classes above each class end in `object`, which is at most 63 above it
pub record IsChain (cs : List ClassTree) : Type 0 where
  pub numbers : list_all (has_numbers cs) cs ≡ true
  pub ends : (t : ℕ) → below cs t 0 ≡ true

-- nothing stands beside the levels
abbrev pub NoAlso : List ClassTree → Type 0
NoAlso cs = (t : ℕ) → also cs t ≡ []

abbrev pub fields_of : Option ClassTree → List FieldTree
fields_of None = []
fields_of (Some c) = c.fields

-- how many fields an object of the class has: those of each of its levels
unfoldable pub field_count : List ClassTree → ℕ → ℕ
field_count cs t = sum_by (λ level. length (fields_of (declared cs level))) (levels cs t)

-- how many classes a program declares at most, and how many fields an object has at most
abbrev pub most_classes : ℕ
most_classes = 4096

abbrev pub most_fields : ℕ
most_fields = 1024

-- there are not too many classes, nor fields of one object
pub record IsWithinLimits (cs : List ClassTree) : Type 0 where
  pub classes : length cs ≤ most_classes
  pub fields : (t : ℕ) → field_count cs t ≤ most_fields
