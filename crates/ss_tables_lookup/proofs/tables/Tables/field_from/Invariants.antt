use Rattle.std.proofs.Common.{◌≡◌, ◌-◌, length}
use Rattle.ss_tables.specs.Classes.{chain_from, first_field}
use Rattle.ss_tables_lookup.specs.Classes.{trees}
use Rattle.ss_tables_lookup.proofs.tables.Tables.field_from.Given as goal

abbrev pub invariant-loop-step : goal.invariant-loop-step
invariant-loop-step l = first_field (trees l.self) l.name (chain_from (trees l.self) (length (trees l.self) - l.step) l.next) ≡ first_field (trees l.self) l.name (chain_from (trees l.self) (length (trees l.self)) l.fn.start)
