-- Which attributes stand where. The place of an attribute is that of its `[`.
use Rattle.std.specs.Prelude.{ℕ, List, [], ◌∷◌, ◌++◌, Bool, true, false, not, ◌&&◌, ◌||◌, if◌then◌else◌, codes}
use Rattle.std.specs.List.{list_any}
use Rattle.std.specs.Str.{bytes_eq}
use Rattle.ss_core.specs.declared.names.Place.{Place}
use Rattle.ss_ast.specs.Expressions.{NameTree}
use Rattle.ss_core.specs.declared.names.Ty.{Ty}
use Rattle.ss_core.specs.Types.{is_class_type}

-- which names may stand on something
abbrev pub Names : Type 0
Names = List ℕ → Bool

abbrev pub is_mark : Names
is_mark n = bytes_eq n (codes "Rep") || bytes_eq n (codes "Peer")

-- on a field of this type
abbrev pub on_field : Ty → Names
on_field t n = is_class_type t && is_mark n

-- on a parameter of this type
abbrev pub on_param : Ty → Names
on_param t n = is_class_type t && bytes_eq n (codes "Captured")

-- on a constructor, or on a method
abbrev pub on_body : Bool → Names
on_body true n = bytes_eq n (codes "NotDelayed")
on_body false n = bytes_eq n (codes "Pure") || bytes_eq n (codes "NoDefaultContract")

abbrev pub on_invariant : Names
on_invariant n = false

-- the same attribute, or the other mark
abbrev pub excludes : List ℕ → List ℕ → Bool
excludes m n = bytes_eq m n || is_mark m && is_mark n

abbrev pub is_excluded : List NameTree → List ℕ → Bool
is_excluded before n = list_any (λ (b : NameTree). excludes b.text n) before

abbrev pub is_bad : Names → List NameTree → NameTree → Bool
is_bad may before a = not (may a.text) || is_excluded before a.text

-- the attributes that may not stand there, or not after those before them
abbrev pub bad_after : Names → List NameTree → List NameTree → List Place
bad_after may before [] = []
bad_after may before (a ∷ more) = (if is_bad may before a then a.place ∷ [] else []) ++ bad_after may (before ++ a ∷ []) more

abbrev pub bad_attributes : Names → List NameTree → List Place
bad_attributes may attributes = bad_after may [] attributes
