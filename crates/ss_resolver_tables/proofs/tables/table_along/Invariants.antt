use Rattle.std.proofs.Common.{◌≤◌, length, drop}
use Rattle.ss_tables_lookup.specs.Classes.{trees}
use Rattle.ss_resolver_rules.specs.Numbers.{table_along}
use Rattle.ss_resolver_tables.specs.Slots.{IsTable}
use Rattle.ss_resolver_tables.proofs.tables.table_along.Given as goal

abbrev pub invariant-loop-first : goal.invariant-loop-first
invariant-loop-first l = record {
  within : l.first ≤ length l.classes;
  table : IsTable (table_along (trees l.tables) (drop l.first l.classes)) l.table;
}

abbrev pub decreases-loop-first : goal.decreases-loop-first
decreases-loop-first l = l.first
