use Rattle.std.proofs.Common.{map, drop}
use Rattle.ss_core.specs.View.{classes, exposed_tree}
use Rattle.ss_vcgen_heaps.specs.Obligations as spec
use Rattle.ss_vcgen_builder.specs.Builder.{position_at}
use Rattle.ss_vcgen_bodies.proofs.Making.{FormulasMade}
use Rattle.ss_vcgen_bodies.proofs.levels.exposed_formulas.Given as goal

abbrev pub invariant-loop-i : goal.invariant-loop-i
invariant-loop-i l =
    FormulasMade l.fn.builder l.builder l.made.items (λ b. spec.exposed_formulas (classes l.walk.core.now.classes) (map exposed_tree (drop l.i l.exposes)) (position_at b l.fn.builder))
    (λ b. spec.exposed_formulas (classes l.walk.core.now.classes) (map exposed_tree l.exposes) (position_at b l.fn.builder))
