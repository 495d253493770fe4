-- What a type says of its values.
use Rattle.std.specs.Prelude.{Bool, true, false, Option, Some, None}
use Rattle.ss_core.specs.declared.names.Ty.{Ty}
use Rattle.ss_core.specs.declared.names.Ty.TheVariants as ty

-- the type is one of references without null (OOPSLA 2003)
abbrev pub is_non_null : Ty → Bool
is_non_null ty.Int = false
is_non_null ty.Bool = false
is_non_null ty.Null = false
is_non_null (ty.Ref t non_null) = non_null

-- the type without its `!`: one of references that may be null
abbrev pub nullable : Ty → Ty
nullable ty.Int = ty.Int
nullable ty.Bool = ty.Bool
nullable ty.Null = ty.Null
nullable (ty.Ref t non_null) = ty.Ref t false

-- a type of objects or of arrays
abbrev pub is_class_type : Ty → Bool
is_class_type ty.Int = false
is_class_type ty.Bool = false
is_class_type ty.Null = false
is_class_type (ty.Ref t non_null) = true

-- there is a type, and it is one of references without null
abbrev pub is_non_null_type : Option Ty → Bool
is_non_null_type None = false
is_non_null_type (Some t) = is_non_null t
