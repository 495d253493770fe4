use Rattle.std.proofs.Common.{◌≡◌, ◌++◌, map, drop}
use Rattle.ss_typed.specs.View.{body, typed}
use Rattle.ss_delayed_rules.specs.Program.{bodies_faults}
use Rattle.ss_delayed.proofs.program.check_bodies.Given as goal

abbrev pub invariant-loop-written : goal.invariant-loop-written
invariant-loop-written l = l.found.items ++ bodies_faults (typed l.fields.program.now) (map body (drop l.written-index l.bodies)) ≡ l.initial.found.items ++ bodies_faults (typed l.fields.program.now) (map body l.bodies)
