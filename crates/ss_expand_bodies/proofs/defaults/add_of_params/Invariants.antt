use Rattle.std.proofs.Common.{◌≡◌, ◌++◌, map, drop}
use Rattle.ss_typed.specs.View as typed
use Rattle.ss_expand_rules.specs.Contracts as contracts
use Rattle.ss_expand_bodies.specs.Conditions.{defaults_of}
use Rattle.ss_expand_bodies.proofs.defaults.add_of_params.Given as goal

abbrev pub invariant-loop-param : goal.invariant-loop-param
invariant-loop-param l = defaults_of l.conditions ++ contracts.of_params (typed.body l.body) l.x (map typed.param (drop l.param-index l.params)) ≡ defaults_of l.fn.conditions ++ contracts.of_params (typed.body l.body) l.first (map typed.param l.params)
