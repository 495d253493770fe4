use Rattle.std.proofs.Common.{ap, [], ◌∷◌}
use Rattle.ss_logic.specs.Shapes.{equal, group, owner_of}
use Rattle.ss_logic.specs.Express.{and_of}
use Rattle.ss_terms.specs.Forms.{term_at}
use Rattle.ss_terms_puts.proofs.Putting.{formula_equal}
use Rattle.ss_frames.proofs.bound.in_group.Goals as goal

pub returns-clause-at : goal.returns-clause-at
returns-clause-at c =
    let s = term_at c.args.b.now c.args.store in
    let e = term_at c.args.b.now c.args.captured in
    formula_equal c.fill.result c.fill.new.b _ _ (ap (λ o. and_of (group (owner_of s e) ∷ equal (owner_of s o) (owner_of s e) ∷ [])) c.requires.object.1) c.fill.ensures.at
