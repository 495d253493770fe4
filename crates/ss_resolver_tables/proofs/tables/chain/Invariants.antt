use Rattle.std.proofs.Common.{◌≡◌, ◌++◌, ◌-◌, Some, length}
use Rattle.ss_tables.specs.Classes.{chain_from}
use Rattle.ss_tables_lookup.specs.Classes.{trees}
use Rattle.ss_resolver_tables.proofs.tables.chain.Given as goal

abbrev pub invariant-loop-step : goal.invariant-loop-step
invariant-loop-step l = l.classes.items ++ chain_from (trees l.tables) (length (trees l.tables) - l.step) l.next ≡ chain_from (trees l.tables) (length (trees l.tables)) (Some l.fn.class)
