use Rattle.std.proofs.Common.{drop}
use Rattle.ss_core.specs.View.{stmt_of}
use Rattle.ss_vcgen_heaps.specs.Obligations as spec
use Rattle.ss_vcgen_builder.specs.Builder.{position_at}
use Rattle.ss_vcgen_builder.proofs.Builds.{Going}
use Rattle.ss_vcgen_bodies.proofs.renewal.renew_locals.Given as goal

abbrev pub invariant-loop-x : goal.invariant-loop-x
invariant-loop-x l = Going l.fn.builder l.builder (λ b k. spec.renew_from (stmt_of l.stmt) l.x (drop l.x l.types) k) (λ b. spec.renew_from (stmt_of l.stmt) 0 l.types (position_at b l.fn.builder))
