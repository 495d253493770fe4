use Rattle.std.proofs.Common.{◌≡◌, ◌++◌, map, drop}
use Rattle.ss_tables_lookup.specs.Classes.{trees}
use Rattle.ss_tables_lookup.specs.Views.{constructor_tree}
use Rattle.ss_resolver_names_rules.specs.Programs.{constructors_locals_faults}
use Rattle.ss_resolver_names.proofs.counts.check_constructor_locals.Given as goal

abbrev pub invariant-loop-constructor : goal.invariant-loop-constructor
invariant-loop-constructor l =
    l.faults.items ++ constructors_locals_faults (trees l.tables) l.class (map constructor_tree (drop l.constructor-index l.constructors)) ≡ l.fn.faults.items ++ constructors_locals_faults (trees l.tables) l.class (map constructor_tree l.constructors)
