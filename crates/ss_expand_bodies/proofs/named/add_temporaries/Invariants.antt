use Rattle.std.proofs.Common.{◌≡◌, ◌++◌, map, drop}
use Rattle.ss_core.specs.View as core
use Rattle.ss_expand_rules.specs.Bodies as bodies
use Rattle.ss_expand_bodies.proofs.named.add_temporaries.Given as goal

abbrev pub invariant-loop-ty : goal.invariant-loop-ty
invariant-loop-ty l = map core.local_of l.locals.items ++ bodies.temporaries_from l.number (drop l.ty-index l.types) ≡ map core.local_of l.fn.locals.items ++ bodies.temporaries_from l.first l.types
