use Rattle.std.proofs.Common.{◌≡◌, map, take}
use Rattle.ss_core.specs.View as core
use Rattle.ss_expand_rules.specs.Contracts as contracts
use Rattle.ss_expand_bodies.proofs.defaults.conditions.Given as goal

abbrev pub invariant-loop-condition : goal.invariant-loop-condition
invariant-loop-condition l = core.exprs l.exprs.items ≡ contracts.conditions l.place (map core.default_tree (take l.condition-index l.defaults))
