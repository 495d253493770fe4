-- The faults of types of a program, and the first of them.
use Rattle.std.specs.Prelude.{ℕ, ◌+◌, Bool, true, false, List, [], ◌∷◌, ◌++◌, Option}
use Rattle.ss_ast.specs.Programs.{MemberTree, ClassTree, ProgramTree}
use Rattle.ss_tables.specs.Members.{ConstructorTree, constructors_in}
use Rattle.ss_faults.specs.declared.Fault.{Fault}
use Rattle.ss_faults.specs.First.{first_fault}
use Rattle.ss_resolver_types_expressions.specs.Members.{implied_base, member_faults}

abbrev pub members_faults : List ClassTree → ℕ → ClassTree → List MemberTree → List Fault
members_faults cs k c [] = []
members_faults cs k c (m ∷ ms) = member_faults cs k c m ++ members_faults cs k c ms

abbrev pub has_constructor : List ConstructorTree → Bool
has_constructor [] = false
has_constructor (c ∷ cs) = true

-- a class without a constructor has an implied one, which calls that of the class above
abbrev pub class_faults : List ClassTree → ℕ → ClassTree → List Fault
class_faults cs k c = members_faults cs k c c.members ++ implied_base cs k (has_constructor (constructors_in c.members)) c.name.place

-- of these classes, which are numbered from k on
abbrev pub classes_faults : List ClassTree → ℕ → List ClassTree → List Fault
classes_faults cs k [] = []
classes_faults cs k (c ∷ rest) = class_faults cs k c ++ classes_faults cs (k + 1) rest

abbrev pub type_faults : ProgramTree → List Fault
type_faults p = classes_faults p.classes 0 p.classes

abbrev pub first_type_fault : ProgramTree → Option Fault
first_type_fault p = first_fault (type_faults p)
