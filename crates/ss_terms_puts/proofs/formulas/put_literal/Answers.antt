use Rattle.std.proofs.Common.{ap, sym, ◌∙◌}
use Rattle.ss_logic.specs.Terms.{terms_from}
use Rattle.ss_logic.specs.Formulas.{Literal}
use Rattle.ss_terms.specs.Forms.{terms_at, predicate_of}
use Rattle.ss_terms_puts.proofs.Putting.{formula_equal, put_terms-map}
use Rattle.ss_terms_puts.proofs.formulas.put_literal.Goals as goal

pub returns-clause-at : goal.returns-clause-at
returns-clause-at c =
    formula_equal c.formula.result c.formula.new.self _ _
    (ap (λ xs. Literal c.args.signed.holds (predicate_of c.args.signed.predicate) (terms_from xs)) c.in_ok-arguments.ensures.at
    ∙ sym (ap (Literal c.args.signed.holds (predicate_of c.args.signed.predicate)) (put_terms-map (terms_at c.args.bank.now c.args.ts.now) (terms_at c.args.bank.now c.args.xs.now))))
    c.formula.ensures.at
