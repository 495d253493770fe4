use Rattle.std.proofs.Common.{[], ◌∷◌}
use Rattle.ss_logic.specs.Shapes.{null_term, equal, differ}
use Rattle.ss_logic.specs.Express.{or_of}
use Rattle.ss_terms.specs.Forms.{Forms, term_at}
use Rattle.ss_vcgen_bodies.proofs.Making.{formula_alone, formulas_so}
use Rattle.ss_vcgen_bodies.proofs.types.stays_alone.Goals as goal

pub returns-clause-at : goal.returns-clause-at
returns-clause-at c =
    let t = c.stays_there.new.builder in
    let F = λ (b : Forms). or_of (equal (term_at b c.args.before) null_term ∷ differ (term_at b c.args.now) null_term ∷ []) in
    formulas_so t.bank c.in_ok-alone.alone.items (c.in_ok-f.f ∷ []) (λ b. F b ∷ []) c.in_ok-alone.ensures.items (formula_alone t.bank c.in_ok-f.f F c.in_ok-f.ensures.at)
