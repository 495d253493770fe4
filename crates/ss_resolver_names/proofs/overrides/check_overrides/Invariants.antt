use Rattle.std.proofs.Common.{◌≡◌, ◌++◌, map, drop}
use Rattle.ss_tables_lookup.specs.Classes.{trees}
use Rattle.ss_tables_lookup.specs.Views.{method_tree}
use Rattle.ss_resolver_names_rules.specs.Members.{override_faults}
use Rattle.ss_resolver_names.proofs.overrides.check_overrides.Given as goal

abbrev pub invariant-loop-method : goal.invariant-loop-method
invariant-loop-method l =
    l.faults.items ++ override_faults (trees l.tables) l.class (map method_tree (drop l.method-index l.methods)) ≡ l.fn.faults.items ++ override_faults (trees l.tables) l.class (map method_tree l.methods)
