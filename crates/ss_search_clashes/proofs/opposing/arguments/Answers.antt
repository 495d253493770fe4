use Rattle.std.proofs.Common.{[]}
use Rattle.ss_search_clashes.proofs.ClashingArguments.{literal_has, literal_arguments, and_arguments, or_arguments, forall_arguments, exists_arguments}
use Rattle.ss_search_clashes.proofs.opposing.arguments.Goals as goal

pub returns-in-Literal-clause-there : goal.returns-in-Literal-clause-there
returns-in-Literal-clause-there c = literal_has c.args.bank.now c.args.f c.in-Literal.holds c.in-Literal.predicate c.in-Literal.arguments c.deref.result.now (rw c.in-Literal.is at c.formula_node.ensures) c.deref.ensures.value

pub returns-in-Literal-clause-arguments : goal.returns-in-Literal-clause-arguments
returns-in-Literal-clause-arguments c = literal_arguments c.args.bank.now c.args.f c.in-Literal.holds c.in-Literal.predicate c.in-Literal.arguments c.deref.result.now (rw c.in-Literal.is at c.formula_node.ensures) c.deref.ensures.value

pub returns-in-And-clause-arguments : goal.returns-in-And-clause-arguments
returns-in-And-clause-arguments c = and_arguments c.args.bank.now c.args.f c.in-And.field-0 [] (rw c.in-And.is at c.formula_node.ensures)

pub returns-in-Or-clause-arguments : goal.returns-in-Or-clause-arguments
returns-in-Or-clause-arguments c = or_arguments c.args.bank.now c.args.f c.in-Or.field-0 [] (rw c.in-Or.is at c.formula_node.ensures)

pub returns-in-Forall-clause-arguments : goal.returns-in-Forall-clause-arguments
returns-in-Forall-clause-arguments c = forall_arguments c.args.bank.now c.args.f c.in-Forall.field-0 c.in-Forall.field-1 [] (rw c.in-Forall.is at c.formula_node.ensures)

pub returns-in-Exists-clause-arguments : goal.returns-in-Exists-clause-arguments
returns-in-Exists-clause-arguments c = exists_arguments c.args.bank.now c.args.f c.in-Exists.field-0 c.in-Exists.field-1 [] (rw c.in-Exists.is at c.formula_node.ensures)
