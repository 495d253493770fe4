use Rattle.std.proofs.Common.{◌∙◌, ap}
use Rattle.ss_logic.specs.Formulas.{Or, formulas_from}
use Rattle.ss_terms_puts.proofs.Putting.{formula_equal}
use Rattle.ss_frames.proofs.Growing.{unless_parts}
use Rattle.ss_frames.proofs.parts.either.Goals as goal

pub or-requires : goal.or-requires
or-requires c = (unless_parts c.args.b.now c.args.parts.now c.args.last _ c.requires.parts c.requires.last (c.deref.ensures.value ∙ c.in_ok-all.ensures)).0

pub returns-clause-at : goal.returns-clause-at
returns-clause-at c =
    formula_equal c.or.result c.or.new.self _ _
    (ap (λ xs. Or (formulas_from xs)) (unless_parts c.args.b.now c.args.parts.now c.args.last _ c.requires.parts c.requires.last (c.deref.ensures.value ∙ c.in_ok-all.ensures)).1)
    c.or.ensures.at
