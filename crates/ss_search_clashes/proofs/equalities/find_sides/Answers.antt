use Rattle.ss_search_clashes.proofs.Equations.{literal_form, and_form, or_form, forall_form, exists_form}
use Rattle.ss_search_clashes.proofs.equalities.find_sides.Goals as goal

pub returns-in-Literal : goal.returns-in-Literal
returns-in-Literal c =
    literal_form c.args.bank.now c.args.f c.in-Literal.holds c.in-Literal.predicate c.in-Literal.arguments c.deref.result.now c.literal_sides.result (rw c.in-Literal.is at c.formula_node.ensures) c.deref.ensures.value c.literal_sides.ensures

pub returns-in-And : goal.returns-in-And
returns-in-And c = and_form c.args.bank.now c.args.f c.in-And.field-0 (rw c.in-And.is at c.formula_node.ensures)

pub returns-in-Or : goal.returns-in-Or
returns-in-Or c = or_form c.args.bank.now c.args.f c.in-Or.field-0 (rw c.in-Or.is at c.formula_node.ensures)

pub returns-in-Forall : goal.returns-in-Forall
returns-in-Forall c = forall_form c.args.bank.now c.args.f c.in-Forall.field-0 c.in-Forall.field-1 (rw c.in-Forall.is at c.formula_node.ensures)

pub returns-in-Exists : goal.returns-in-Exists
returns-in-Exists c = exists_form c.args.bank.now c.args.f c.in-Exists.field-0 c.in-Exists.field-1 (rw c.in-Exists.is at c.formula_node.ensures)
