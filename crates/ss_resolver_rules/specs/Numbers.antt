-- The numbers of classes, fields and bodies, each in order of declaration over the program, and the tables of methods. What
-- isn't there has the number 0; in a source without faults everything is there.
use Rattle.std.specs.Prelude.{ℕ, zero, suc, ◌+◌, true, not, List, [], ◌∷◌, ◌++◌, length, map, filter, take, sum_by, Option, Some, None, option_map, option_and_then, unwrap_or, position, if◌then◌else◌}
use Rattle.std.specs.Str.{bytes_eq}
use Rattle.ss_core.specs.declared.names.Ty.{Ty}
use Rattle.ss_core.specs.declared.names.Ty.TheVariants as ty
use Rattle.ss_core.specs.Tree.{EntryTree}
pub use Rattle.ss_core.specs.Chain.{names_of}
use Rattle.ss_ast.specs.Expressions.{NameTree, TypeTree, TypeNameTree}
use Rattle.ss_ast.specs.Programs.{MemberTree, ClassTree}
use Rattle.ss_resolver_names_rules.specs.Faults.{is_listed}
use Rattle.ss_tables.specs.Members.{FieldTree, MethodTree, ConstructorTree, fields_in, methods_in, constructors_in}
use Rattle.ss_tables.specs.Classes.{Declared, class_named, class_number, chain, members_at}
use Rattle.ss_tables.specs.Types.{written_type, array_type, class_of}

-- ---- classes and types

-- of a declared class by its place; `object` where there is none
abbrev pub number_or_object : Option ℕ → ℕ
number_or_object None = 0
number_or_object (Some k) = class_number k

-- of the class of this name
abbrev pub class_id : List ClassTree → List ℕ → ℕ
class_id cs n = number_or_object (class_named cs n)

-- the type that is written
abbrev pub type_id : List ClassTree → TypeTree → Ty
type_id cs t = unwrap_or (written_type cs t) ty.Null

-- the class that a type is of
abbrev pub class_in : Option Ty → ℕ
class_in t = unwrap_or (option_and_then class_of t) 0

abbrev pub written_class : List ClassTree → TypeTree → ℕ
written_class cs t = class_in (written_type cs t)

-- the class of arrays of a type
abbrev pub array_class : List ClassTree → TypeNameTree → ℕ
array_class cs t = class_in (array_type cs true t)

-- ---- fields

abbrev pub field_count : ClassTree → ℕ
field_count c = length (fields_in c.members)

-- the place of a name among the fields of a class
abbrev pub field_place : List MemberTree → List ℕ → ℕ
field_place ms n = unwrap_or (position (λ (f : FieldTree). bytes_eq n f.name.text) (fields_in ms)) 0

-- the field of this name that class k declares: the fields of the classes before it come first
abbrev pub field_id : List ClassTree → ℕ → List ℕ → ℕ
field_id cs k n = sum_by field_count (take k cs) + field_place (members_at cs k) n

-- ---- bodies: class by class, of a class first its constructor and then its methods

abbrev pub body_count : ClassTree → ℕ
body_count c = length (constructors_in c.members) + length (methods_in c.members)

abbrev pub constructor_id : List ClassTree → ℕ → ℕ
constructor_id cs k = sum_by body_count (take k cs)

abbrev pub method_place : List MemberTree → List ℕ → ℕ
method_place ms n = unwrap_or (position (λ (m : MethodTree). bytes_eq n m.name.text) (methods_in ms)) 0

-- the body of the method of this name that class k declares
abbrev pub method_id : List ClassTree → ℕ → List ℕ → ℕ
method_id cs k n = constructor_id cs k + (length (constructors_in (members_at cs k)) + method_place (members_at cs k) n)

-- ---- tables of methods

abbrev pub method_names : List MemberTree → List (List ℕ)
method_names ms = map (λ (m : MethodTree). m.name.text) (methods_in ms)

-- the entry of a name, where class k declares a method of it
abbrev pub declared_entry : List ClassTree → ℕ → List ℕ → EntryTree
declared_entry cs k n = record { name = n; body = method_id cs k n }

-- a method that the class declares stands in place of the one that it overrides
abbrev pub overridden : List ClassTree → ℕ → EntryTree → EntryTree
overridden cs k e = if is_listed (method_names (members_at cs k)) e.name then declared_entry cs k e.name else e

-- the methods of the class that the table above doesn't name, in order of declaration
abbrev pub added : List ClassTree → ℕ → List EntryTree → List EntryTree
added cs k es = map (declared_entry cs k) (filter (λ (n : List ℕ). not (is_listed (names_of es) n)) (method_names (members_at cs k)))

-- the table of the first of these classes, each of which is above the one before it: the names of the table above, then its own
abbrev pub table_along : List ClassTree → List ℕ → List EntryTree
table_along cs [] = []
table_along cs (k ∷ ks) = map (overridden cs k) (table_along cs ks) ++ added cs k (table_along cs ks)

-- the table of class k, which names written bodies
abbrev pub table : List ClassTree → ℕ → List EntryTree
table cs k = table_along cs (chain cs k)

-- the place of a method's name in it
abbrev pub table_place : List ClassTree → ℕ → List ℕ → ℕ
table_place cs k n = unwrap_or (position (λ (e : EntryTree). bytes_eq n e.name) (table cs k)) 0
