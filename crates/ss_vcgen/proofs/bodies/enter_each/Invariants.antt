use Rattle.std.proofs.Common.{◌++◌, None, map, drop}
use Rattle.ss_core.specs.View as view
use Rattle.ss_vcgen_builder.specs.Builder.{position_at}
use Rattle.ss_vcgen_builder.proofs.Builds.{Going}
use Rattle.ss_vcgen.proofs.bodies.enter_each.Given as goal

abbrev pub invariant-loop-local : goal.invariant-loop-local
invariant-loop-local l =
    Going l.fn.builder l.builder (λ b k. record k { locals = k.locals ++ map (λ l. None) (map view.local_of (drop l.local-index l.locals)) })
    (λ b. record (position_at b l.fn.builder) { locals = (position_at b l.fn.builder).locals ++ map (λ l. None) (map view.local_of l.locals) })
