-- The types that written types mean. A type without a class of its name means none.
use Rattle.std.specs.Prelude.{ℕ, ◌-◌, ◌==◌, Bool, false, List, Option, Some, None, option_map, if◌then◌else◌}
use Rattle.ss_core.specs.declared.names.Ty.{Ty}
use Rattle.ss_core.specs.declared.names.Ty.TheVariants as ty
use Rattle.ss_core.specs.Kinds as kinds
use Rattle.ss_ast.specs.Expressions.{TypeNameTree, IntType, BoolType, ObjectType, ClassType, TypeTree}
use Rattle.ss_ast.specs.Programs.{ClassTree}
use Rattle.ss_tables.specs.Classes.{class_named, class_number, array_number, is_array_number}

abbrev pub reference : Bool → ℕ → Ty
reference non_null t = ty.Ref (record { 0 = t }) non_null

-- a type's name alone; the mark `!` counts on a class only
abbrev pub named_type : List ClassTree → Bool → TypeNameTree → Option Ty
named_type cs non_null IntType = Some ty.Int
named_type cs non_null BoolType = Some ty.Bool
named_type cs non_null ObjectType = Some (reference non_null 0)
named_type cs non_null (ClassType n) = option_map (λ (k : ℕ). reference non_null (class_number k)) (class_named cs n)

-- arrays of it
abbrev pub array_type : List ClassTree → Bool → TypeNameTree → Option Ty
array_type cs non_null IntType = Some (reference non_null 1)
array_type cs non_null BoolType = Some (reference non_null 2)
array_type cs non_null ObjectType = Some (reference non_null 3)
array_type cs non_null (ClassType n) = option_map (λ (k : ℕ). reference non_null (array_number k)) (class_named cs n)

abbrev pub written_type : List ClassTree → TypeTree → Option Ty
written_type cs t = if t.is_array then array_type cs t.non_null t.name else named_type cs t.non_null t.name

-- the class of a value of the type, by its number
abbrev pub class_of : Ty → Option ℕ
class_of ty.Int = None
class_of ty.Bool = None
class_of ty.Null = None
class_of (ty.Ref t non_null) = Some t.0

-- what an array of this class has as elements, which may be null
abbrev pub element_type : ℕ → Option Ty
element_type t =
    if is_array_number t
    then Some (kinds.element_type t)
    else None
