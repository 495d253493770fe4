use Rattle.std.proofs.Common.{◌≡◌, ◌++◌, map, drop}
use Rattle.ss_core.specs.View as core
use Rattle.ss_resolver_limits.specs.Limits.{bodies_faults}
use Rattle.ss_resolver_limits.proofs.check_bodies.Given as goal

abbrev pub invariant-loop-body : goal.invariant-loop-body
invariant-loop-body l =
    l.faults.items ++ bodies_faults (map core.body (drop l.body-index l.bodies)) ≡ l.fn.faults.items ++ bodies_faults (map core.body l.bodies)
