use Rattle.std.proofs.Common.{◌≡◌, ◌++◌, [], map, drop}
use Rattle.ss_ast.specs.Programs.{class_tree}
use Rattle.ss_resolver_names_rules.specs.Faults.{twice_among}
use Rattle.ss_resolver_names_rules.specs.Programs.{class_names}
use Rattle.ss_resolver_scoping.specs.Views.{names_of}
use Rattle.ss_resolver_names.proofs.program.check_class_names.Given as goal

abbrev pub invariant-loop-class : goal.invariant-loop-class
invariant-loop-class l =
    l.faults.items ++ twice_among (names_of l.names.keys) (class_names (map class_tree (drop l.class-index l.classes))) ≡ l.fn.faults.items ++ twice_among [] (class_names (map class_tree l.classes))
