use Rattle.std.proofs.Common.{ap₂}
use Rattle.ss_logic.specs.Frames.{grown}
use Rattle.ss_terms.specs.Forms.{term_at}
use Rattle.ss_terms_puts.proofs.Putting.{formula_equal}
use Rattle.ss_frames.proofs.Meaning.{made_grown_means}
use Rattle.ss_frames.proofs.growth.grown.Goals as goal

pub returns-clause-at : goal.returns-clause-at
returns-clause-at c =
    let g = c.term.ensures.grown in
    formula_equal c.objects_grown.result c.objects_grown.new.b _ _ (ap₂ grown (g.same_terms c.args.before c.requires.before) (g.same_terms c.args.after c.requires.after)) c.objects_grown.ensures.at

pub returns-clause-means : goal.returns-clause-means
returns-clause-means c = made_grown_means c.objects_grown.result c.objects_grown.new.b (term_at c.args.b.now c.args.before) (term_at c.args.b.now c.args.after) (returns-clause-at c)
