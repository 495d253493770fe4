use Rattle.std.proofs.Common.{drop}
use Rattle.ss_core.specs.View.{exprs}
use Rattle.ss_vcgen_heaps.specs.Positions as positions
use Rattle.ss_vcgen_builder.specs.Builder.{position_at, walk_at}
use Rattle.ss_vcgen_builder.proofs.Builds.{Going}
use Rattle.ss_vcgen_statements.proofs.expressions.evaluate_all.Given as goal

abbrev pub invariant-loop-e : goal.invariant-loop-e
invariant-loop-e l =
    Going l.fn.builder l.builder (λ b k. positions.evaluate_all (walk_at b l.walk) (exprs (drop l.e-index l.es)) k) (λ b. positions.evaluate_all (walk_at b l.walk) (exprs l.es) (position_at b l.fn.builder))
