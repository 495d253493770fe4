use Rattle.std.proofs.Common.{Bool, false, ◌∙◌, ap}
use Rattle.ss_logic.specs.Terms.{term_then, no_terms}
use Rattle.ss_logic.specs.Formulas.{Equal, Literal}
use Rattle.ss_terms.specs.Forms.{term_at, formula_at}
use Rattle.ss_search_clashes.proofs.Saying.{one_sign}
use Rattle.ss_search_clashes.proofs.clashing.different_terms.Goals as goal

pub unreachable-requires : goal.unreachable-requires
unreachable-requires c = c.sides.ensures.none c.in-None.is false c.requires.differ.0 c.requires.differ.1 c.requires.differ.2

pub returns-clause-left : goal.returns-clause-left
returns-clause-left c = c.in-Some.ensures.terms.0

pub returns-clause-right : goal.returns-clause-right
returns-clause-right c = c.in-Some.ensures.terms.1

pub returns-clause-differ : goal.returns-clause-differ
returns-clause-differ c =
    let b = c.args.bank.now in
    let s = c.in-Some.equality in
    c.in-Some.ensures.some
    ∙ ap (λ (h : Bool). Literal h Equal (term_then (term_at b s.left) (term_then (term_at b s.right) no_terms)))
    (one_sign s.holds c.requires.differ.0 c.requires.differ.1 (term_at b s.left) (term_at b s.right) (formula_at b c.args.f) c.requires.differ.2 c.in-Some.ensures.some)
