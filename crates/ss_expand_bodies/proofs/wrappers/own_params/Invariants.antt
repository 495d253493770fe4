use Rattle.std.proofs.Common.{◌≡◌, ◌++◌, map, drop}
use Rattle.ss_core.specs.View as core
use Rattle.ss_typed.specs.View as typed
use Rattle.ss_expand_rules.specs.Bodies as bodies
use Rattle.ss_expand_bodies.proofs.wrappers.own_params.Given as goal

abbrev pub invariant-loop-param : goal.invariant-loop-param
invariant-loop-param l = core.exprs l.exprs.items ++ bodies.own_params l.place l.x (map typed.param (drop l._param-index l.params)) ≡ bodies.own_params l.place l.first (map typed.param l.params)
