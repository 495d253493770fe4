use Rattle.std.proofs.Common.{◌≡◌, drop}
use Rattle.ss_tables_lookup.specs.Classes.{trees}
use Rattle.ss_resolver_rules.specs.Programs.{main_from}
use Rattle.ss_resolver_programs.proofs.mains.main_body.Given as goal

abbrev pub invariant-loop-class : goal.invariant-loop-class
invariant-loop-class l = main_from (trees l.whole.tables.now) l.class (drop l.class (trees l.whole.tables.now)) ≡ main_from (trees l.whole.tables.now) 0 (trees l.whole.tables.now)
