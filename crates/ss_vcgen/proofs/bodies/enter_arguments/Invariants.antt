use Rattle.std.proofs.Common.{drop}
use Rattle.ss_vcgen_heaps.specs.Obligations as spec
use Rattle.ss_vcgen_builder.specs.Builder.{position_at}
use Rattle.ss_vcgen_builder.proofs.Builds.{Going}
use Rattle.ss_vcgen.proofs.bodies.enter_arguments.Given as goal

abbrev pub invariant-loop-ty : goal.invariant-loop-ty
invariant-loop-ty l = Going l.fn.builder l.builder (λ b k. spec.enter_arguments (drop l.ty-index l.types) k) (λ b. spec.enter_arguments l.types (position_at b l.fn.builder))
