use Rattle.std.proofs.Common.{◌≡◌, map, drop}
use Rattle.ss_tables_lookup.specs.Views.{field_tree}
use Rattle.ss_tables_lookup.specs.Places.{places_from, places_of}
use Rattle.ss_tables_lookup.specs.Shelves.{field_names}
use Rattle.ss_tables_lookup.proofs.places.field_places.Given as goal

abbrev pub invariant-loop-place : goal.invariant-loop-place
invariant-loop-place l = places_from l.places l.place (field_names (map field_tree (drop l.place l.fields))) ≡ places_of (field_names (map field_tree l.fields))
