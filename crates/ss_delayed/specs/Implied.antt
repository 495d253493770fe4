-- The faults of a class by its place in the list of classes.
use Rattle.std.specs.Prelude.{ℕ, ◌+◌, ◌*◌, List, [], ◌∷◌, ◌++◌, if◌then◌else◌, slice_get}
use Rattle.ss_core.specs.declared.names.Place.{Place}
use Rattle.ss_faults.specs.declared.Fault.{Fault}
use Rattle.ss_core.specs.Chain.{above_of, fields_of}
use Rattle.ss_typed.specs.Tree.{MembersTree, TypedTree}
use Rattle.ss_paths.specs.Fields.{fields_of_members}
use Rattle.ss_typed.specs.Constructors.{is_delayed_body}
use Rattle.ss_delayed_rules.specs.Constructors.{unassigned, base_not_delayed, at, are_assigned_from}
use Rattle.ss_typed.specs.Lookups.{constructor_of}
use Rattle.ss_delayed_rules.specs.Program.{initializers_faults, implied_faults}
use Rattle.ss_paths_assigned.specs.Started.{started}

-- those of a constructor with nothing in it
abbrev pub empty_faults : TypedTree → ℕ → Place → List Fault
empty_faults p k q =
    (if are_assigned_from (started (fields_of_members (slice_get p.members k))) 0 (fields_of (slice_get p.classes k)) then [] else at unassigned q ∷ [])
    ++ (if is_delayed_body (constructor_of p (above_of (slice_get p.classes k))) then [] else at base_not_delayed q ∷ [])

abbrev pub class_faults : TypedTree → ℕ → MembersTree → List Fault
class_faults p k c = initializers_faults c.fields ++ implied_faults p (4 + 2 * k) c
