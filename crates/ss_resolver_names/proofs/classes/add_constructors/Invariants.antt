use Rattle.std.proofs.Common.{◌≡◌, ◌++◌, map, drop}
use Rattle.ss_tables.specs.Members.{ConstructorTree}
use Rattle.ss_tables_lookup.specs.Views.{constructor_tree}
use Rattle.ss_core.specs.declared.rules.Rule.TheVariants.{Twice}
use Rattle.ss_resolver_names_rules.specs.Members.{faults_at}
use Rattle.ss_resolver_names.proofs.classes.add_constructors.Given as goal

abbrev pub invariant-loop-constructor : goal.invariant-loop-constructor
invariant-loop-constructor l =
    l.faults.items ++ faults_at Twice (map (λ (d : ConstructorTree). d.name) (map constructor_tree (drop l.constructor-index l.constructors))) ≡ l.fn.faults.items ++ faults_at Twice (map (λ (d : ConstructorTree). d.name) (map constructor_tree l.constructors))
