use Rattle.std.proofs.Common.{◌≡◌, drop}
use Rattle.ss_tables_lookup.specs.Classes.{trees}
use Rattle.ss_resolver_names_rules.specs.Programs.{mains_in}
use Rattle.ss_resolver_names.proofs.Counting.{mains_from}
use Rattle.ss_resolver_names.proofs.program.count_mains.Given as goal

abbrev pub invariant-loop-class : goal.invariant-loop-class
invariant-loop-class l = mains_from l.count (drop l.class (trees l.tables)) ≡ mains_in (trees l.tables)
