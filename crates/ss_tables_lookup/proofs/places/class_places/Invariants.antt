use Rattle.std.proofs.Common.{◌≡◌, map, drop}
use Rattle.ss_ast.specs.Programs.{class_tree}
use Rattle.ss_tables_lookup.specs.Places.{places_from, places_of}
use Rattle.ss_tables_lookup.specs.Shelves.{class_names}
use Rattle.ss_tables_lookup.proofs.places.class_places.Given as goal

abbrev pub invariant-loop-place : goal.invariant-loop-place
invariant-loop-place l = places_from l.places l.place (class_names (map class_tree (drop l.place l.classes))) ≡ places_of (class_names (map class_tree l.classes))
