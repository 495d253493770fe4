use Rattle.std.proofs.Common.{drop}
use Rattle.ss_terms.specs.Forms.{term_at}
use Rattle.ss_vcgen_heaps.specs.Obligations as spec
use Rattle.ss_vcgen_builder.specs.Builder.{position_at, walk_at}
use Rattle.ss_vcgen_bodies.proofs.Making.{FormulasMade}
use Rattle.ss_vcgen_bodies.proofs.types.argument_types_said.Given as goal

abbrev pub invariant-loop-x : goal.invariant-loop-x
invariant-loop-x l =
    FormulasMade l.fn.builder l.builder l.made.items (λ b. spec.argument_types_from (walk_at b l.walk) (term_at b l.fn.builder.store) l.x (drop l.x l.types) (drop l.x (position_at b l.fn.builder).locals))
    (λ b. spec.argument_types_from (walk_at b l.walk) (term_at b l.fn.builder.store) 0 l.types (position_at b l.fn.builder).locals)
