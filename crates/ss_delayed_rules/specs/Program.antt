-- The faults of construction of a whole program.
use Rattle.std.specs.Prelude.{ℕ, ◌+◌, ◌*◌, List, [], ◌∷◌, ◌++◌, if◌then◌else◌, Option, Some, None, is_some}
use Rattle.ss_faults.specs.declared.Fault.{Fault}
use Rattle.ss_typed.specs.Tree.{FieldTree, BodyTree, MembersTree, TypedTree}
use Rattle.ss_paths.specs.Assigned.{assigned_by_initializers}
use Rattle.ss_delayed_rules.specs.Escapes.{NotAtAll, uses_if}
use Rattle.ss_delayed_rules.specs.Constructors.{escapes, unassigned_faults, base_faults, constructor_faults}

-- initializers are without `this`
abbrev pub initializers_faults : List FieldTree → List Fault
initializers_faults [] = []
initializers_faults (f ∷ fs) = escapes (uses_if NotAtAll f.initial) ++ initializers_faults fs

-- a constructor that isn't written is delayed and has nothing in it; its faults stand at the class's name
abbrev pub implied_faults : TypedTree → ℕ → MembersTree → List Fault
implied_faults p t c = if is_some c.constructor then [] else unassigned_faults p t c.place (Some (assigned_by_initializers p t)) ++ base_faults p t c.place

-- these classes, the first of which stands at place k of the list
abbrev pub classes_faults : TypedTree → ℕ → List MembersTree → List Fault
classes_faults p k [] = []
classes_faults p k (c ∷ cs) = initializers_faults c.fields ++ implied_faults p (4 + 2 * k) c ++ classes_faults p (k + 1) cs

abbrev pub body_faults : TypedTree → BodyTree → List Fault
body_faults p b = if b.flags.ctor then constructor_faults p b else []

abbrev pub bodies_faults : TypedTree → List BodyTree → List Fault
bodies_faults p [] = []
bodies_faults p (b ∷ bs) = body_faults p b ++ bodies_faults p bs

unfoldable pub construction_faults : TypedTree → List Fault
construction_faults p = classes_faults p 0 p.members ++ bodies_faults p p.bodies
