use Rattle.std.proofs.Common.{◌≡◌, ◌++◌, map, drop}
use Rattle.ss_ast.specs.Programs.{class_tree}
use Rattle.ss_tables_lookup.specs.Classes.{trees}
use Rattle.ss_typed.specs.View as view
use Rattle.ss_resolver_rules.specs.Programs as resolved
use Rattle.ss_resolver_programs.proofs.program.all_bodies.Given as goal

abbrev pub invariant-loop-class : goal.invariant-loop-class
invariant-loop-class l = map view.body l.list.items ++ resolved.bodies_from (trees l.whole.tables.now) l.class (map class_tree (drop l.class l.classes)) ≡ resolved.bodies_from (trees l.whole.tables.now) 0 (map class_tree l.classes)
