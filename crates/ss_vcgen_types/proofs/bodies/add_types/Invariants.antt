use Rattle.std.proofs.Common.{◌≡◌, ◌++◌, map, take}
use Rattle.ss_core.specs.View.{local_of}
use Rattle.ss_store_rules.specs.Locals.{types_of}
use Rattle.ss_vcgen_types.proofs.bodies.add_types.Given as goal

abbrev pub invariant-loop-local : goal.invariant-loop-local
invariant-loop-local l = l.found.items ≡ l.fn.found.items ++ types_of (map local_of (take l.local-index l.locals))
