use Rattle.std.proofs.Common.{ap, sym, ◌∙◌}
use Rattle.ss_logic.specs.Terms.{terms_from}
use Rattle.ss_logic.specs.Formulas.{Literal}
use Rattle.ss_terms.specs.Forms.{terms_at, predicate_of}
use Rattle.ss_terms_puts.proofs.Putting.{formula_equal}
use Rattle.ss_terms_puts.proofs.Lifting.{lifted_terms-map}
use Rattle.ss_terms_puts.proofs.lifts_formulas.lift_literal.Goals as goal

pub returns-clause-at : goal.returns-clause-at
returns-clause-at c =
    formula_equal c.formula.result c.formula.new.self _ _
    (ap (λ xs. Literal c.args.signed.holds (predicate_of c.args.signed.predicate) (terms_from xs)) c.in_ok-arguments.ensures.at
    ∙ sym (ap (Literal c.args.signed.holds (predicate_of c.args.signed.predicate)) (lifted_terms-map c.args.n (terms_at c.args.bank.now c.args.xs.now))))
    c.formula.ensures.at
