use Rattle.std.proofs.Common.{ap, ◌∙◌}
use Rattle.ss_logic.specs.Frames as logic
use Rattle.ss_terms.specs.Forms.{term_at}
use Rattle.ss_vcgen_express.proofs.Grown.{is_formula}
use Rattle.ss_vcgen_contracts.proofs.changes.grown.Goals as goal

pub returns-clause-at : goal.returns-clause-at
returns-clause-at c =
    is_formula c.grown.result c.args.bank.now c.grown.new.b (λ b. logic.grown (term_at b c.args.before) (term_at b c.args.after)) c.grown.ensures.grown
    (λ b g. ap (λ t. logic.grown t (term_at b c.args.after)) (g.same_terms c.args.before c.requires.before) ∙ ap (logic.grown (term_at c.args.bank.now c.args.before)) (g.same_terms c.args.after c.requires.after)) c.grown.ensures.at
