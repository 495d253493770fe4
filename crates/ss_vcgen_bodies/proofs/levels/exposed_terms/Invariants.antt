use Rattle.std.proofs.Common.{map, drop}
use Rattle.ss_core.specs.View.{exposed_tree}
use Rattle.ss_vcgen_heaps.specs.Obligations as spec
use Rattle.ss_vcgen_builder.specs.Builder.{position_at}
use Rattle.ss_vcgen_bodies.proofs.Making.{TermsMade}
use Rattle.ss_vcgen_bodies.proofs.levels.exposed_terms.Given as goal

abbrev pub invariant-loop-exposed : goal.invariant-loop-exposed
invariant-loop-exposed l =
    TermsMade l.fn.builder l.builder l.terms.items (λ b. spec.exposed_terms (map exposed_tree (drop l.exposed-index l.exposes)) (position_at b l.fn.builder)) (λ b. spec.exposed_terms (map exposed_tree l.exposes) (position_at b l.fn.builder))
