use Rattle.std.proofs.Common.{ap}
use Rattle.ss_logic.specs.Shapes.{equal, level_of, type_of}
use Rattle.ss_terms.specs.Forms.{term_at}
use Rattle.ss_terms_puts.proofs.Putting.{formula_equal}
use Rattle.ss_frames.proofs.same.is_full.Goals as goal

pub returns-clause-at : goal.returns-clause-at
returns-clause-at c =
    let r = term_at c.args.b.now c.args.m.now.after in
    formula_equal c.fill.result c.fill.new.b _ _ (ap (λ o. equal (level_of r o) (type_of o)) c.requires.object.1) c.fill.ensures.at
