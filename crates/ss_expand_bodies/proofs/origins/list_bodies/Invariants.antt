use Rattle.std.proofs.Common.{◌≡◌, ◌+◌, ◌*◌, ◌++◌, map, drop}
use Rattle.ss_core.specs.View as core
use Rattle.ss_typed.specs.View as typed
use Rattle.ss_expand_rules.specs.Program as elab
use Rattle.ss_expand_bodies.specs.Origins.{origins_of}
use Rattle.ss_expand_bodies.proofs.origins.list_bodies.Given as goal

abbrev pub invariant-loop-class : goal.invariant-loop-class
invariant-loop-class l =
    let program = typed.typed l.program in
    record {
      listed : origins_of l.origins ++ elab.bodies_from program l.number (map core.class_of (drop l._class-index l._class-items)) ≡ elab.bodies program;
      number : l.number ≡ 4 + 2 * l._class-index;
    }
