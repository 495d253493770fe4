use Rattle.std.proofs.Common.{◌≡◌, ◌++◌, map, drop}
use Rattle.ss_core.specs.View as core
use Rattle.ss_typed.specs.View as typed
use Rattle.ss_expand_rules.specs.Bodies as bodies
use Rattle.ss_expand_bodies.proofs.named.add_params.Given as goal

abbrev pub invariant-loop-param : goal.invariant-loop-param
invariant-loop-param l = map core.local_of l.locals.items ++ map bodies.param_of (map typed.param (drop l.param-index l.params)) ≡ map core.local_of l.fn.locals.items ++ map bodies.param_of (map typed.param l.params)
