-- The names in the text of a core program. A number of nothing has no name there, and nothing is written for it.
use Rattle.std.specs.Prelude.{ℕ, List, [], ◌∷◌, ◌++◌, map, length, codes, decimal, bytes_eq, Bool, ◌==◌, if◌then◌else◌, Option, Some, None, slice_get}
use Rattle.std.specs.List.{list_any}
use Rattle.ss_core.specs.declared.names.Ty.{Ty}
use Rattle.ss_core.specs.declared.names.Ty.TheVariants as ty
use Rattle.ss_core.specs.Tree.{ClassTree, EntryTree, LocalTree, BodyTree}
use Rattle.ss_core.specs.Kinds.{is_array_number, element_type}
use Rattle.ss_core.specs.Chain.{declared, DeclaredField, all_fields}

-- ---- classes

abbrev pub name_of_class : Option ClassTree → List ℕ
name_of_class None = []
name_of_class (Some k) = k.name

abbrev pub declared_name : List ClassTree → ℕ → List ℕ
declared_name cs t = name_of_class (declared cs t)

-- `object`, or a declared class
abbrev pub plain_name : List ClassTree → ℕ → List ℕ
plain_name cs t = if t == 0 then codes "object" else declared_name cs t

abbrev pub type_name : List ClassTree → Ty → List ℕ
type_name cs ty.Int = codes "int"
type_name cs ty.Bool = codes "bool"
type_name cs ty.Null = []
type_name cs (ty.Ref t non_null) = plain_name cs t.0

-- what the elements of an array are
abbrev pub element_name : List ClassTree → ℕ → List ℕ
element_name cs t = type_name cs (element_type t)

abbrev pub class_name : List ClassTree → ℕ → List ℕ
class_name cs t = if is_array_number t then element_name cs t ++ codes "[]" else plain_name cs t

-- ---- fields and methods

abbrev pub name_of_field : Option DeclaredField → List ℕ
name_of_field None = []
name_of_field (Some d) = d.field.name

abbrev pub field_name : List ClassTree → ℕ → List ℕ
field_name cs f = name_of_field (slice_get (all_fields cs) f)

abbrev pub entry_at : Option ClassTree → ℕ → Option EntryTree
entry_at None m = None
entry_at (Some k) m = slice_get k.table m

abbrev pub name_of_entry : Option EntryTree → List ℕ
name_of_entry None = []
name_of_entry (Some e) = e.name

-- the method at a place of a class's table
abbrev pub method_name : List ClassTree → ℕ → ℕ → List ℕ
method_name cs t m = name_of_entry (entry_at (declared cs t) m)

-- ---- bodies

abbrev pub name_of_body : Option BodyTree → List ℕ
name_of_body None = []
name_of_body (Some b) = b.name

-- its class and its name
abbrev pub title : List ClassTree → BodyTree → List ℕ
title cs b = class_name cs b.class ++ codes "." ++ b.name

abbrev pub title_of_body : List ClassTree → Option BodyTree → List ℕ
title_of_body cs None = []
title_of_body cs (Some b) = title cs b

-- ---- locals

abbrev pub is_among : List (List ℕ) → List ℕ → Bool
is_among names name = list_any (bytes_eq name) names

-- a name that an earlier one has too is followed by `#` and its number
abbrev pub marked : List (List ℕ) → List ℕ → List ℕ
marked earlier name = if is_among earlier name then name ++ codes "#" ++ decimal (length earlier) else name

-- the texts of these names, before which stand the earlier ones
abbrev pub texts_from : List (List ℕ) → List (List ℕ) → List (List ℕ)
texts_from earlier [] = []
texts_from earlier (name ∷ names) = marked earlier name ∷ texts_from (earlier ++ name ∷ []) names

abbrev pub or_nothing : Option (List ℕ) → List ℕ
or_nothing None = []
or_nothing (Some text) = text

-- the text of the local of a number among these
abbrev pub local_text : List (List ℕ) → ℕ → List ℕ
local_text names x = or_nothing (slice_get (texts_from [] names) x)

abbrev pub this_names : BodyTree → List (List ℕ)
this_names b = if b.flags.is_static then [] else codes "this" ∷ []

abbrev pub result_names : Option Ty → List (List ℕ)
result_names None = []
result_names (Some t) = codes "result" ∷ []

abbrev pub names_of : List LocalTree → List (List ℕ)
names_of ls = map (λ l. l.name) ls

-- the names of a body's locals, by their numbers
abbrev pub local_names : BodyTree → List (List ℕ)
local_names b = this_names b ++ names_of b.params ++ names_of b.locals ++ result_names b.result
