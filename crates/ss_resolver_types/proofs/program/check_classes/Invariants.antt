use Rattle.std.proofs.Common.{◌≡◌, ◌++◌, map, drop}
use Rattle.ss_ast.specs.Programs.{class_tree}
use Rattle.ss_tables_lookup.specs.Classes.{trees}
use Rattle.ss_resolver_types_expressions.specs.Programs.{classes_faults}
use Rattle.ss_resolver_types.proofs.program.check_classes.Given as goal

abbrev pub invariant-loop-class : goal.invariant-loop-class
invariant-loop-class l =
    l.found.items ++ classes_faults (trees l.tables) l.class (map class_tree (drop l.class l.classes))
    ≡ l.fn.found.items ++ classes_faults (trees l.tables) 0 (map class_tree l.classes)
