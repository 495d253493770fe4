use Rattle.std.proofs.Common.{sym, ap, ◌∙◌}
use Rattle.ss_logic.specs.Terms.{terms_from}
use Rattle.ss_logic.specs.Formulas.{Literal}
use Rattle.ss_logic_means.specs.Steps.{are_exchanged, is_swapped}
use Rattle.ss_terms.specs.Forms.{formulas_at, terms_at, predicate_of}
use Rattle.ss_check_steps.proofs.Exchanged.{swapping}
use Rattle.ss_check_steps.proofs.reads.is_swapped_literal.Goals as goal

pub returns-else-not-is_same_predicate : goal.returns-else-not-is_same_predicate
returns-else-not-is_same_predicate c =
    let n = rw c.in-Literal.is at c.formula_node.ensures in
    let known = formulas_at c.args.bank.now c.args.known.now in
    c.are_exchanged_at.ensures
    ∙ ap (λ us. are_exchanged known (terms_at c.args.bank.now c.args.literal.now.arguments.now) (terms_at c.args.bank.now us) c.args.js.now) c.deref.ensures.value
    ∙ swapping c.args.bank.now known c.args.js.now c.args.literal.now.holds c.in-Literal.holds (predicate_of c.args.literal.now.predicate) (predicate_of c.in-Literal.predicate) c.args.literal.now.arguments.now c.in-Literal.arguments.items c.if-literal-holds.false
    (sym c.if-not-is_same_predicate.ensures)
    ∙ ap (λ g. is_swapped known c.args.js.now (Literal c.args.literal.now.holds (predicate_of c.args.literal.now.predicate) (terms_from (terms_at c.args.bank.now c.args.literal.now.arguments.now))) g) (sym n.built)
