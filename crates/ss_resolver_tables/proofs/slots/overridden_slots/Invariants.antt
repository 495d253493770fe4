use Rattle.std.proofs.Common.{◌≡◌, ◌++◌, map, drop}
use Rattle.ss_tables_lookup.specs.Classes.{trees}
use Rattle.ss_resolver_rules.specs.Numbers.{overridden}
use Rattle.ss_resolver_tables.specs.Slots.{slots_of}
use Rattle.ss_resolver_tables.proofs.slots.overridden_slots.Given as goal

abbrev pub invariant-loop-slot : goal.invariant-loop-slot
invariant-loop-slot l = slots_of l.slots.items ++ map (overridden (trees l.tables) l.class) (slots_of (drop l.slot-index l.above)) ≡ map (overridden (trees l.tables) l.class) (slots_of l.above)
