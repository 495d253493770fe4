use Rattle.std.proofs.Common.{◌≡◌, ◌-◌, length}
use Rattle.ss_tables.specs.Classes.{chain_from}
use Rattle.ss_tables_lookup.specs.Classes.{trees}
use Rattle.ss_resolver_types_heads.specs.Wants.{in_chain}
use Rattle.ss_resolver_types_heads.proofs.wants.is_in_chain.Given as goal

abbrev pub invariant-loop-step : goal.invariant-loop-step
invariant-loop-step l = in_chain l.place (chain_from (trees l.tables) (length (trees l.tables) - l.step) l.next) ≡ in_chain l.place (chain_from (trees l.tables) (length (trees l.tables)) l.fn.start)
