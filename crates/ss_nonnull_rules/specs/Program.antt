-- The faults of null of a whole program.
use Rattle.std.specs.Prelude.{ℕ, ◌+◌, ◌==◌, List, [], ◌∷◌, ◌++◌, Bool, true, false, ◌&&◌, nat_lt, if◌then◌else◌, Option, Some, None, is_some, slice_get}
use Rattle.ss_core.specs.declared.names.Place.{Place}
use Rattle.ss_faults.specs.declared.Fault.{Fault}
use Rattle.ss_core.specs.declared.names.Ty.{Ty}
use Rattle.ss_core.specs.Tree as core
use Rattle.ss_core.specs.Kinds.{class_number}
use Rattle.ss_typed.specs.Tree.{ExprTree, BaseTree, FieldTree, BodyTree, MembersTree, TypedTree}
use Rattle.ss_paths.specs.Fields.{own_fields, field_numbers}
use Rattle.ss_paths.specs.Paths.{faults_in}
use Rattle.ss_paths.specs.Assigned.{Assigned, assigned_by_initializers, assigned_first, has_initializer}
use Rattle.ss_paths.specs.Sets.{none}
use Rattle.ss_nonnull_rules.specs.NonNull.{NullContext, Known, known_flow}
use Rattle.ss_nonnull_rules.specs.Faults.{inside, wanted, handed_to_base, null_check}
use Rattle.ss_nonnull_rules.specs.Overrides.{override_faults}

abbrev pub only_fields : Assigned → Option Known
only_fields a = Some (record { facts = none; fields = a })

-- ---- initializers

abbrev pub initializer_context : TypedTree → ℕ → NullContext
initializer_context p t = record { program = p; class = t; numbers = field_numbers p t; constructs = true; in_old = false; result = None }

-- the first n initializers have been done
abbrev pub initialized : TypedTree → ℕ → ℕ → Option Known
initialized p t n = only_fields (record { own = λ i. nat_lt i n && has_initializer p t i; above = false })

-- an initializer stands where a value of the field's type is wanted
abbrev pub initializer_faults : NullContext → Option Known → Ty → Option ExprTree → List Fault
initializer_faults s k t None = []
initializer_faults s k t (Some e) = inside s k e ++ wanted s k e t

-- the initializers of these fields, the first of which stands at place n of the class
abbrev pub initializers_from : TypedTree → ℕ → ℕ → List FieldTree → List core.FieldTree → List Fault
initializers_from p t n [] ts = []
initializers_from p t n (f ∷ fs) [] = []
initializers_from p t n (f ∷ fs) (g ∷ gs) = initializer_faults (initializer_context p t) (initialized p t n) g.ty f.initial ++ initializers_from p t (n + 1) fs gs

-- ---- bodies

abbrev pub null_context_of : TypedTree → BodyTree → NullContext
null_context_of p b = record { program = p; class = b.class; numbers = field_numbers p b.class; constructs = b.flags.ctor; in_old = false; result = b.result }

-- `: base(..)` stands after the initializers
abbrev pub base_faults : TypedTree → BodyTree → Option BaseTree → List Fault
base_faults p b None = []
base_faults p b (Some base) = handed_to_base (null_context_of p b) (only_fields (assigned_by_initializers p b.class)) base.arguments

abbrev pub body_faults : TypedTree → BodyTree → List Fault
body_faults p b = override_faults p b ++ base_faults p b b.base ++ faults_in (known_flow (null_context_of p b)) (null_check (null_context_of p b)) b.block (only_fields (assigned_first p b))

-- ---- the program

-- the initializers of these classes, the first of which stands at place k of the list
abbrev pub classes_faults : TypedTree → ℕ → List MembersTree → List Fault
classes_faults p k [] = []
classes_faults p k (c ∷ cs) = initializers_from p (class_number k) 0 c.fields (own_fields p (class_number k)) ++ classes_faults p (k + 1) cs

abbrev pub bodies_faults : TypedTree → List BodyTree → List Fault
bodies_faults p [] = []
bodies_faults p (b ∷ bs) = body_faults p b ++ bodies_faults p bs

unfoldable pub null_faults : TypedTree → List Fault
null_faults p = classes_faults p 0 p.members ++ bodies_faults p p.bodies
