use Rattle.std.proofs.Common.{◌≡◌, ℕ, length, Some}
use Rattle.std.specs.Prelude.{slice_get}
use Rattle.ss_tables_lookup.specs.Classes.{trees}
use Rattle.ss_resolver_tables.specs.declared.slots.MethodTable.{MethodTable}
use Rattle.ss_resolver_rules.specs.Numbers.{table}
use Rattle.ss_resolver_tables.specs.Slots.{IsTable}
use Rattle.ss_resolver_tables.proofs.tables.method_tables.Given as goal

abbrev pub invariant-loop-class : goal.invariant-loop-class
invariant-loop-class l = record {
  places : length l.list.items ≡ l.class;
  each : (k : ℕ) (t : MethodTable) → slice_get l.list.items k ≡ Some t → IsTable (table (trees l.tables) k) t;
}
