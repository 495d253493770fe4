use Rattle.std.proofs.Common.{◌≡◌, ◌++◌, map, drop}
use Rattle.ss_core.specs.View as core
use Rattle.ss_expand_bodies.proofs.named.add_locals.Given as goal

abbrev pub invariant-loop-local : goal.invariant-loop-local
invariant-loop-local l = map core.local_of l.locals.items ++ map core.local_of (drop l.local-index l.more) ≡ map core.local_of l.fn.locals.items ++ map core.local_of l.more
