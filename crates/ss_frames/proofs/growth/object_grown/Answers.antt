use Rattle.std.proofs.Common.{ap}
use Rattle.ss_terms.specs.Forms.{term_at}
use Rattle.ss_terms_puts.proofs.Putting.{formula_equal}
use Rattle.ss_frames.proofs.Growing.{has_grown}
use Rattle.ss_frames.proofs.growth.object_grown.Goals as goal

pub returns-clause-at : goal.returns-clause-at
returns-clause-at c =
    formula_equal c.fill.result c.fill.new.b _ _ (ap (has_grown (term_at c.args.b.now c.args.before) (term_at c.args.b.now c.args.after)) c.requires.object.1) c.fill.ensures.at
