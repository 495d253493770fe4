use Rattle.std.proofs.Common.{ap, ◌∙◌}
use Rattle.ss_logic.specs.Frames.{the_object}
use Rattle.ss_terms.specs.Forms.{term_at}
use Rattle.ss_terms_puts.proofs.Putting.{formula_equal}
use Rattle.ss_frames.proofs.Growing.{elements_same}
use Rattle.ss_frames.proofs.same.same_elements.Goals as goal

pub returns-clause-at : goal.returns-clause-at
returns-clause-at c =
    let s = term_at c.args.b.now c.args.m.now.before in
    let r = term_at c.args.b.now c.args.m.now.after in
    formula_equal c.fill.result c.fill.new.b _ _
    (ap (λ o. elements_same s r o (term_at c.args.b.now c.args.index)) c.requires.object.1 ∙ ap (elements_same s r the_object) c.requires.index.1)
    c.fill.ensures.at
