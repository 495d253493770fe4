use Rattle.std.proofs.Common.{◌≡◌, ◌++◌, map, drop}
use Rattle.ss_core.specs.View as core
use Rattle.ss_typed.specs.View as typed
use Rattle.ss_expand_rules.specs.Program as elab
use Rattle.ss_expand_bodies.specs.Origins.{origins_of}
use Rattle.ss_expand_bodies.proofs.origins.add_methods.Given as goal

abbrev pub invariant-loop-place : goal.invariant-loop-place
invariant-loop-place l =
    let program = typed.typed l.program in
    origins_of l.origins ++ elab.methods_from program l.class.0 l.place (map core.entry_of (drop l.place l.entries)) ≡ origins_of l.fn.origins ++ elab.methods_from program l.class.0 0 (map core.entry_of l.entries)
