use Rattle.std.proofs.Common.{◌≡◌, drop}
use Rattle.ss_tables_lookup.specs.Places.{places_from, places_of}
use Rattle.ss_resolver_rules.specs.Numbers.{names_of}
use Rattle.ss_resolver_tables.specs.Slots.{slots_of}
use Rattle.ss_resolver_tables.proofs.tables.slot_places.Given as goal

abbrev pub invariant-loop-place : goal.invariant-loop-place
invariant-loop-place l = places_from l.places l.place (names_of (slots_of (drop l.place l.slots))) ≡ places_of (names_of (slots_of l.slots))
