use Rattle.std.proofs.Common.{◌≡◌, ◌++◌, map, drop}
use Rattle.ss_tables_lookup.specs.Classes.{trees}
use Rattle.ss_tables_lookup.specs.Views.{method_tree}
use Rattle.ss_typed.specs.View as view
use Rattle.ss_resolver_rules.specs.Programs.{method_body}
use Rattle.ss_resolver_programs.proofs.program.add_methods.Given as goal

abbrev pub invariant-loop-method : goal.invariant-loop-method
invariant-loop-method l = map view.body l.list.items ++ map (method_body (trees l.context.within.tables.now) l.context.within.class) (map method_tree (drop l.method-index l.methods))
    ≡ map view.body l.fn.list.items ++ map (method_body (trees l.context.within.tables.now) l.context.within.class) (map method_tree l.methods)
