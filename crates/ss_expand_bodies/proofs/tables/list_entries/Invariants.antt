use Rattle.std.proofs.Common.{◌≡◌, ◌++◌, map, drop}
use Rattle.ss_core.specs.View as core
use Rattle.ss_typed.specs.View as typed
use Rattle.ss_expand_rules.specs.Program as elab
use Rattle.ss_expand_bodies.proofs.tables.list_entries.Given as goal

abbrev pub invariant-loop-place : goal.invariant-loop-place
invariant-loop-place l =
    let program = typed.typed l.program in
    map core.entry_of l.list.items ++ elab.entries_from program l.class.0 l.place (map core.entry_of (drop l.place l.entries)) ≡ elab.entries_from program l.class.0 0 (map core.entry_of l.entries)
