use Rattle.std.proofs.Common.{map, drop}
use Rattle.ss_core.specs.View.{exprs}
use Rattle.ss_vcgen_heaps.specs.Positions as position
use Rattle.ss_vcgen_builder.specs.Builder.{position_at, walk_at}
use Rattle.ss_vcgen_bodies.proofs.Making.{FormulasMade}
use Rattle.ss_vcgen_bodies.proofs.heads.all_hold.Given as goal

abbrev pub invariant-loop-e : goal.invariant-loop-e
invariant-loop-e l =
    FormulasMade l.fn.builder l.builder l.made.items (λ b. map (position.holds_at (walk_at b l.walk) (position_at b l.fn.builder)) (exprs (drop l.e-index l.es))) (λ b. map (position.holds_at (walk_at b l.walk) (position_at b l.fn.builder)) (exprs l.es))
