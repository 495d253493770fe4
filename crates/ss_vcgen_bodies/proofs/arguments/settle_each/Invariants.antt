use Rattle.std.proofs.Common.{drop}
use Rattle.ss_core.specs.View.{exprs}
use Rattle.ss_vcgen_builder.specs.Builder.{walk_at}
use Rattle.ss_vcgen_bodies.proofs.Settling.{Settled}
use Rattle.ss_vcgen_bodies.proofs.arguments.settle_each.Given as goal

abbrev pub invariant-loop-e : goal.invariant-loop-e
invariant-loop-e l = Settled l.fn.builder (λ b. walk_at b l.walk) (exprs l.es) l.builder l.terms.items (exprs (drop l.e-index l.es))
