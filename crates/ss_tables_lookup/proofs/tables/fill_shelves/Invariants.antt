use Rattle.std.proofs.Common.{◌≡◌, ◌++◌, map, drop}
use Rattle.ss_ast.specs.Programs.{class_tree}
use Rattle.ss_tables_lookup.specs.Shelves.{shelf, shelves}
use Rattle.ss_tables_lookup.specs.Shelved.{shelf_of}
use Rattle.ss_tables_lookup.proofs.tables.fill_shelves.Given as goal

abbrev pub invariant-loop-class : goal.invariant-loop-class
invariant-loop-class l = map shelf_of l.list.items ++ map (shelf (map class_tree l.classes)) (map class_tree (drop l.class-index l.classes)) ≡ shelves (map class_tree l.classes)
