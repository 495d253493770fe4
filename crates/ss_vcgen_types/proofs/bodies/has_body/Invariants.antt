use Rattle.std.proofs.Common.{◌≡◌, map, drop}
use Rattle.std.specs.Prelude.{◌==◌}
use Rattle.std.specs.List.{list_any}
use Rattle.ss_core.specs.Tree.{EntryTree}
use Rattle.ss_core.specs.View.{entry_of}
use Rattle.ss_vcgen_types.proofs.bodies.has_body.Given as goal

abbrev pub invariant-loop-entry : goal.invariant-loop-entry
invariant-loop-entry l = list_any (λ (e : EntryTree). e.body == l.number.0) (map entry_of (drop l.entry-index l.class.table.items)) ≡ list_any (λ (e : EntryTree). e.body == l.number.0) (map entry_of l.class.table.items)
