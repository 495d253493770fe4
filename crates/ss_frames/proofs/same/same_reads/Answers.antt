use Rattle.std.proofs.Common.{ap, [], ◌∷◌}
use Rattle.ss_logic.specs.Terms.{app}
use Rattle.ss_logic.specs.Shapes.{equal}
use Rattle.ss_terms.specs.Forms.{term_at, symbol_of}
use Rattle.ss_terms_puts.proofs.Putting.{formula_equal}
use Rattle.ss_frames.proofs.same.same_reads.Goals as goal

pub returns-clause-at : goal.returns-clause-at
returns-clause-at c =
    let f = symbol_of c.args.symbol in
    let s = term_at c.args.b.now c.args.m.now.before in
    let r = term_at c.args.b.now c.args.m.now.after in
    formula_equal c.fill.result c.fill.new.b _ _ (ap (λ o. equal (app f (r ∷ o ∷ [])) (app f (s ∷ o ∷ []))) c.requires.object.1) c.fill.ensures.at
