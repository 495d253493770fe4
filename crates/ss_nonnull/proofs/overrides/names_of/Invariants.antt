use Rattle.std.proofs.Common.{◌≡◌, map, drop}
use Rattle.ss_core.specs.View.{entry_of}
use Rattle.ss_core.specs.Chain.{names_of}
use Rattle.ss_tables_lookup.specs.Places.{places_from, places_of}
use Rattle.ss_nonnull.proofs.overrides.names_of.Given as goal

abbrev pub invariant-loop-place : goal.invariant-loop-place
invariant-loop-place l = places_from l.places l.place (names_of (map entry_of (drop l.place l.entries))) ≡ places_of (names_of (map entry_of l.entries))
