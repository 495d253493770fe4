-- Faults of classes and programs, limits, and the first fault of the phase of names.
use Rattle.std.specs.Prelude.{ℕ, zero, suc, ◌+◌, ◌==◌, ◌&&◌, not, nat_le, nat_lt, Bool, true, false, List, [], ◌∷◌, ◌++◌, map, length, drop, sum_by, count_by, Option, Some, None, is_some, codes, if◌then◌else◌}
use Rattle.std.specs.Str.{bytes_eq}
use Rattle.ss_core.specs.Chain as chain
use Rattle.ss_ast.specs.Expressions.{NameTree, IntType}
use Rattle.ss_ast.specs.Programs.{ParamTree, ClassTree, ProgramTree}
use Rattle.ss_tables.specs.Members.{FieldTree, MethodTree, ConstructorTree, fields_in, methods_in, constructors_in, is_static}
use Rattle.ss_tables.specs.Classes.{above, steps_above, chain_above, members_at}
use Rattle.ss_tables.specs.Scopes.{class_scope, param_scope}
use Rattle.ss_core.specs.declared.rules.Rule.TheVariants as rule
use Rattle.ss_faults.specs.declared.Fault.{Fault}
use Rattle.ss_faults.specs.First.{first_fault}
use Rattle.ss_resolver_names_rules.specs.Faults.{Faults, fault, unless, twice_among, class_faults}
use Rattle.ss_resolver_names_rules.specs.Locals.{locals_in}
use Rattle.ss_resolver_names_rules.specs.Members.{members_faults, member_names, faults_at, constructor_faults, override_faults, same_type_name}

-- ---- limits

unfoldable pub most_classes : ℕ
most_classes = chain.most_classes

-- how many classes stand at most between a class and `object`, itself counted
unfoldable pub most_levels : ℕ
most_levels = chain.most_above

unfoldable pub most_fields : ℕ
most_fields = chain.most_fields

unfoldable pub most_methods : ℕ
most_methods = 1024

unfoldable pub most_locals : ℕ
most_locals = 4096

abbrev pub least : ℕ → ℕ → ℕ
least m n = if nat_lt m n then m else n

-- the classes above end in `object`
abbrev pub ends : List ClassTree → ℕ → Bool
ends cs k = not (is_some (steps_above cs (length cs) (Some k)))

-- a class that is too deep below `object`
abbrev pub is_deep : List ClassTree → ℕ → Bool
is_deep cs k = is_some (steps_above cs most_levels (Some k)) && ends cs k

abbrev pub depth_faults : List ClassTree → ℕ → ClassTree → Faults
depth_faults cs k c = if is_deep cs k then fault rule.Limit c.name.place else []

-- how many fields an object of the class has from the classes above
abbrev pub inherited_fields : List ClassTree → ℕ → ℕ
inherited_fields cs k = sum_by (λ j. length (fields_in (members_at cs j))) (chain_above cs k)

-- each field that comes after the last one that an object may have, where so many come before
abbrev pub field_limit_faults : ℕ → List FieldTree → Faults
field_limit_faults before [] = []
field_limit_faults before (f ∷ fs) =
    (if nat_lt before most_fields then [] else fault rule.Limit f.name.place) ++ field_limit_faults (before + 1) fs

abbrev pub fields_faults : List ClassTree → ℕ → ClassTree → Faults
fields_faults cs k c = field_limit_faults (if ends cs k then inherited_fields cs k else 0) (fields_in c.members)

-- each method past the limit
abbrev pub methods_faults : List MethodTree → Faults
methods_faults ms = faults_at rule.Limit (map (λ (m : MethodTree). m.name) (drop most_methods ms))

abbrev pub method_locals : List ClassTree → ℕ → MethodTree → ℕ
method_locals cs k m = locals_in (param_scope cs k m.params) m.body

abbrev pub constructor_locals : List ClassTree → ℕ → ConstructorTree → ℕ
constructor_locals cs k c = locals_in (param_scope cs k c.params) c.body

-- a body with too many locals before its temporaries, at its name
abbrev pub locals_fault : ℕ → NameTree → Faults
locals_fault n name = if nat_le n most_locals then [] else fault rule.Limit name.place

abbrev pub methods_locals_faults : List ClassTree → ℕ → List MethodTree → Faults
methods_locals_faults cs k [] = []
methods_locals_faults cs k (m ∷ ms) = locals_fault (method_locals cs k m) m.name ++ methods_locals_faults cs k ms

abbrev pub constructors_locals_faults : List ClassTree → ℕ → List ConstructorTree → Faults
constructors_locals_faults cs k [] = []
constructors_locals_faults cs k (c ∷ ds) = locals_fault (constructor_locals cs k c) c.name ++ constructors_locals_faults cs k ds

abbrev pub bodies_faults : List ClassTree → ℕ → ClassTree → Faults
bodies_faults cs k c = constructors_locals_faults cs k (constructors_in c.members) ++ methods_locals_faults cs k (methods_in c.members)

-- ---- the class above

-- going up from a class over later ones alone, one comes back to it: it is the first of its cycle
abbrev pub comes_back : List ClassTree → ℕ → ℕ → Option ℕ → Bool
comes_back cs k zero at = false
comes_back cs k (suc n) None = false
comes_back cs k (suc n) (Some j) = if j == k then true else if nat_lt j k then false else comes_back cs k n (above cs j)

abbrev pub is_first_of_cycle : List ClassTree → ℕ → Bool
is_first_of_cycle cs k = comes_back cs k (length cs) (above cs k)

abbrev pub above_faults : List ClassTree → ℕ → Option NameTree → Faults
above_faults cs k None = []
above_faults cs k (Some n) =
    class_faults cs n.text n.place ++ (if is_first_of_cycle cs k then fault rule.Cycle n.place else [])

-- ---- classes

abbrev pub class_faults_of : List ClassTree → ℕ → ClassTree → Faults
class_faults_of cs k c =
    depth_faults cs k c ++ above_faults cs k c.above ++ twice_among [] (member_names c.members)
    ++ constructor_faults (constructors_in c.members) ++ fields_faults cs k c ++ methods_faults (methods_in c.members)
    ++ override_faults cs k (methods_in c.members) ++ members_faults (class_scope cs k) c.members ++ bodies_faults cs k c

-- of the classes from place k on
abbrev pub classes_faults : List ClassTree → ℕ → List ClassTree → Faults
classes_faults cs k [] = []
classes_faults cs k (c ∷ rest) = class_faults_of cs k c ++ classes_faults cs (k + 1) rest

-- ---- Main

-- no parameter, or one of the type `int[]` or `int[]!`
abbrev pub takes_input : List ParamTree → Bool
takes_input [] = true
takes_input (p ∷ []) = p.ty.is_array && same_type_name IntType p.ty.name
takes_input (p ∷ q ∷ ps) = false

abbrev pub is_main : MethodTree → Bool
is_main m = bytes_eq m.name.text (codes "Main") && is_static m && not (is_some m.result) && takes_input m.params

abbrev pub mains_in : List ClassTree → ℕ
mains_in cs = sum_by (λ (c : ClassTree). count_by is_main (methods_in c.members)) cs

-- ---- programs

abbrev pub class_names : List ClassTree → List NameTree
class_names cs = map (λ (c : ClassTree). c.name) cs

-- every fault of names in a program
abbrev pub program_faults : ProgramTree → Faults
program_faults p =
    twice_among [] (class_names p.classes) ++ faults_at rule.Limit (drop most_classes (class_names p.classes))
    ++ classes_faults p.classes 0 p.classes ++ unless (mains_in p.classes == 1) (fault rule.NoMain p.last)

-- the one at the earliest place, and of two there the one of the lower rule
abbrev pub first_name_fault : ProgramTree → Option Fault
first_name_fault p = first_fault (program_faults p)
