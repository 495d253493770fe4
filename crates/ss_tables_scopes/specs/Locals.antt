-- Locals as the code holds them.
use Rattle.std.specs.Prelude.{◌≡◌, Option, Some, None, option_map, refl}
use Rattle.std.proofs.Common.{ap}
use Rattle.ss_core.specs.declared.names.Ty.{Ty}
use Rattle.ss_core.specs.declared.names.Ty.TheVariants as ty
use Rattle.ss_tables_lookup.specs.declared.types.StaticType.{StaticType}
use Rattle.ss_tables_lookup.specs.declared.types.StaticType.TheVariants as static
use Rattle.ss_tables_lookup.specs.Views.{type_of}
use Rattle.ss_tables.specs.Scopes.{Local}
use Rattle.ss_tables_scopes.specs.declared.local.LocalInfo.TheInside.{Inside}

abbrev pub local_of : Inside → Local
local_of l = record { ty = option_map type_of l.ty; is_param = l.is_param }

-- and back
abbrev pub static_of : Ty → StaticType
static_of ty.Int = static.Int
static_of ty.Bool = static.Bool
static_of ty.Null = static.Null
static_of (ty.Ref t non_null) = static.Ref t.0 non_null

abbrev pub info_of : Local → Inside
info_of l = record { ty = option_map static_of l.ty; is_param = l.is_param }

type_back : (t : Option StaticType) → option_map static_of (option_map type_of t) ≡ t
type_back None = refl
type_back (Some static.Int) = refl
type_back (Some static.Bool) = refl
type_back (Some static.Null) = refl
type_back (Some (static.Ref t non_null)) = refl

pub info_back : (l : Inside) → info_of (local_of l) ≡ l
info_back l = ap (λ (t : Option StaticType). the (record { ty = t; is_param = l.is_param })) (type_back l.ty)
  where
    the : Inside → Inside
    the i = i
