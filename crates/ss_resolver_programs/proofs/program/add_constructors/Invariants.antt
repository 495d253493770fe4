use Rattle.std.proofs.Common.{◌≡◌, ◌++◌, map, drop}
use Rattle.ss_tables_lookup.specs.Classes.{trees}
use Rattle.ss_tables_lookup.specs.Views.{constructor_tree}
use Rattle.ss_typed.specs.View as view
use Rattle.ss_resolver_rules.specs.Programs.{constructor_body}
use Rattle.ss_resolver_programs.proofs.program.add_constructors.Given as goal

abbrev pub invariant-loop-constructor : goal.invariant-loop-constructor
invariant-loop-constructor l = map view.body l.list.items ++ map (constructor_body (trees l.context.within.tables.now) l.context.within.class) (map constructor_tree (drop l.constructor-index l.constructors))
    ≡ map view.body l.fn.list.items ++ map (constructor_body (trees l.context.within.tables.now) l.context.within.class) (map constructor_tree l.constructors)
