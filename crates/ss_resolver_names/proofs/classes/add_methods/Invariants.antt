use Rattle.std.proofs.Common.{◌≡◌, ◌++◌, map, drop}
use Rattle.ss_tables.specs.Members.{MethodTree}
use Rattle.ss_tables_lookup.specs.Views.{method_tree}
use Rattle.ss_core.specs.declared.rules.Rule.TheVariants.{Limit}
use Rattle.ss_resolver_names_rules.specs.Members.{faults_at}
use Rattle.ss_resolver_names.proofs.classes.add_methods.Given as goal

abbrev pub invariant-loop-method : goal.invariant-loop-method
invariant-loop-method l =
    l.faults.items ++ faults_at Limit (map (λ (d : MethodTree). d.name) (map method_tree (drop l.method-index l.methods))) ≡ l.fn.faults.items ++ faults_at Limit (map (λ (d : MethodTree). d.name) (map method_tree l.methods))
