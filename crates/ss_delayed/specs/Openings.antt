-- What stands before `base(..)`, as the code counts it, and which `base(..)` is written.
use Rattle.std.specs.Prelude.{ℕ, List, [], ◌∷◌, Bool, not, if◌then◌else◌, Option, Some, None}
use Rattle.ss_typed.specs.Tree.{BaseTree, BaseCallOf, StmtTree, SimpleOf, StmtTrees, NoMore, Before, TypedTree, arguments}
use Rattle.ss_typed.specs.View.{exprs}
use Rattle.ss_core.specs.declared.names.Place.{Place}
use Rattle.ss_faults.specs.declared.Fault.{Fault}
use Rattle.ss_paths.specs.Fields.{field_numbers}
use Rattle.ss_paths.specs.Paths.{at_end}
use Rattle.ss_paths.specs.Assigned.{assigned_flow, assigned_by_initializers}
use Rattle.ss_typed.specs.Shapes.{is_base}
use Rattle.ss_delayed_rules.specs.Constructors.{unassigned_faults}
use Rattle.ss_delayed.specs.declared.opening.BaseCall.{BaseCall}

-- the longest run of statements that are kept
abbrev pub run : (StmtTree → Bool) → StmtTrees → StmtTrees
run keeps NoMore = NoMore
run keeps (Before s ss) = if keeps s then Before s (run keeps ss) else NoMore

abbrev pub is_no_base : StmtTree → Bool
is_no_base s = not (is_base s)

-- these statements, and then those
abbrev pub ahead : List StmtTree → StmtTrees → StmtTrees
ahead [] ss = ss
ahead (x ∷ xs) ss = Before x (ahead xs ss)

-- the `base(..)` that the statement is, where it is one
abbrev pub base_at : StmtTree → Option BaseTree
base_at (SimpleOf (BaseCallOf p es)) = Some (record { place = p; arguments = es })
base_at s = None

abbrev pub base_of : BaseCall → BaseTree
base_of b = record { place = b.place; arguments = arguments (exprs b.arguments.now) }

-- the fault of what stands before `base(..)`, at this place
abbrev pub opening_faults : TypedTree → ℕ → Place → StmtTrees → List Fault
opening_faults p t q ss = unassigned_faults p t q (at_end (assigned_flow (field_numbers p t)) ss (Some (assigned_by_initializers p t)))
