use Rattle.std.proofs.Common.{◌≡◌, ◌+◌, map, drop}
use Rattle.std.specs.Prelude.{◌==◌}
use Rattle.std.specs.List.{position_or_len}
use Rattle.ss_core.specs.Tree.{EntryTree}
use Rattle.ss_core.specs.View as core
use Rattle.ss_expand_bodies.proofs.origins.find_entry.Given as goal

abbrev pub invariant-loop-place : goal.invariant-loop-place
invariant-loop-place l =
    position_or_len (λ (e : EntryTree). e.body == l.number.0) (map core.entry_of l.entries) ≡ l.place + position_or_len (λ (e : EntryTree). e.body == l.number.0) (map core.entry_of (drop l.place l.entries))
