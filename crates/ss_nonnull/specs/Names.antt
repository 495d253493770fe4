-- The methods of the tables of classes by name.
use Rattle.std.specs.Prelude.{ℕ, List, [], ◌∷◌, Bool, if◌then◌else◌}
use Rattle.ss_core.specs.declared.names.Place.{Place}
use Rattle.ss_core.specs.Tree as core
use Rattle.ss_core.specs.Chain.{names_of}
use Rattle.ss_tables_lookup.specs.Places.{Places, places_of}
use Rattle.ss_faults.specs.declared.Fault.{Fault}
use Rattle.ss_nonnull_rules.specs.Overrides.{bad_override_type}

abbrev pub table_names : core.ClassTree → Places
table_names c = places_of (names_of c.table)

abbrev pub mark_fault : Bool → Place → List Fault
mark_fault agrees p = if agrees then [] else record { rule = bad_override_type; place = p } ∷ []
