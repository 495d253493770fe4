use Rattle.std.proofs.Common.{◌≡◌}
use Rattle.ss_tables_lookup.specs.Classes.{trees}
use Rattle.ss_resolver_names_rules.specs.Programs.{comes_back, is_first_of_cycle}
use Rattle.ss_resolver_names.proofs.chains.is_first_of_cycle.Given as goal

abbrev pub invariant-loop-left : goal.invariant-loop-left
invariant-loop-left l = comes_back (trees l.tables) l.class l.left l.at ≡ is_first_of_cycle (trees l.tables) l.class

abbrev pub decreases-loop-left : goal.decreases-loop-left
decreases-loop-left l = l.left
