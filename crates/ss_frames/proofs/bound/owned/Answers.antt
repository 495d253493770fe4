use Rattle.std.proofs.Common.{ap}
use Rattle.ss_logic.specs.Shapes.{equal, owner_of, pair_of, class_term}
use Rattle.ss_terms.specs.Forms.{term_at}
use Rattle.ss_terms_puts.proofs.Putting.{formula_equal}
use Rattle.ss_frames.proofs.bound.owned.Goals as goal

pub returns-clause-at : goal.returns-clause-at
returns-clause-at c =
    let s = term_at c.args.b.now c.args.store in
    let w = term_at c.args.b.now c.args.owner.0 in
    formula_equal c.fill.result c.fill.new.b _ _ (ap (λ o. equal (owner_of s o) (pair_of w (class_term c.args.owner.1.0))) c.requires.object.1) c.fill.ensures.at
