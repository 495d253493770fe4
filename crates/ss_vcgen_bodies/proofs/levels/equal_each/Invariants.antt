use Rattle.std.proofs.Common.{map, drop}
use Rattle.ss_logic.specs.Shapes.{equal}
use Rattle.ss_terms.specs.Forms.{term_at, terms_at}
use Rattle.ss_vcgen_bodies.proofs.Making.{FormulasMade}
use Rattle.ss_vcgen_bodies.proofs.levels.equal_each.Given as goal

abbrev pub invariant-loop-other : goal.invariant-loop-other
invariant-loop-other l =
    FormulasMade l.fn.builder l.builder l.made.items (λ b. map (λ x. equal x (term_at b l.o)) (terms_at b (drop l.other-index l.others))) (λ b. map (λ x. equal x (term_at b l.o)) (terms_at b l.others))
