use Rattle.std.proofs.Common.{◌≡◌, ◌++◌, map, drop}
use Rattle.ss_ast.specs.Programs.{class_tree}
use Rattle.ss_core.specs.declared.rules.Rule.TheVariants.{Limit}
use Rattle.ss_resolver_names_rules.specs.Members.{faults_at}
use Rattle.ss_resolver_names_rules.specs.Programs.{class_names}
use Rattle.ss_resolver_names.proofs.program.add_classes.Given as goal

abbrev pub invariant-loop-class : goal.invariant-loop-class
invariant-loop-class l =
    l.faults.items ++ faults_at Limit (class_names (map class_tree (drop l.class-index l.classes))) ≡ l.fn.faults.items ++ faults_at Limit (class_names (map class_tree l.classes))
