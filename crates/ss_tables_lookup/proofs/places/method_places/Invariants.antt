use Rattle.std.proofs.Common.{◌≡◌, map, drop}
use Rattle.ss_tables_lookup.specs.Views.{method_tree}
use Rattle.ss_tables_lookup.specs.Places.{places_from, places_of}
use Rattle.ss_tables_lookup.specs.Shelves.{method_names}
use Rattle.ss_tables_lookup.proofs.places.method_places.Given as goal

abbrev pub invariant-loop-place : goal.invariant-loop-place
invariant-loop-place l = places_from l.places l.place (method_names (map method_tree (drop l.place l.methods))) ≡ places_of (method_names (map method_tree l.methods))
