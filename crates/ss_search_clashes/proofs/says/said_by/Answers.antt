use Rattle.std.proofs.Common.{◌∙◌, ap, map}
use Rattle.ss_equality_rules.specs.Equal.{class_number}
use Rattle.ss_search_clashes.proofs.Said.{literal_says, forall_says, exists_says, and_silent, or_silent}
use Rattle.ss_search_clashes.proofs.says.said_by.Goals as goal

pub returns-in_ok-found-in-Literal-clause-some : goal.returns-in_ok-found-in-Literal-clause-some
returns-in_ok-found-in-Literal-clause-some c = λ class k.
    literal_says c.args.bank.now class c.args.f c.args.classes.now k c.in-Literal.holds c.in-Literal.predicate c.in-Literal.arguments c.in_ok-found-in-Literal.found.items (rw c.in-Literal.is at c.formula_node.ensures)
    (c.in_ok-found-in-Literal.ensures ∙ ap (map (class_number c.args.classes.now)) c.deref.ensures.value)

pub returns-in-And-clause-none : goal.returns-in-And-clause-none
returns-in-And-clause-none c = λ class e. and_silent c.args.bank.now class c.args.f c.in-And.field-0 (rw c.in-And.is at c.formula_node.ensures)

pub returns-in-Or-clause-none : goal.returns-in-Or-clause-none
returns-in-Or-clause-none c = λ class e. or_silent c.args.bank.now class c.args.f c.in-Or.field-0 (rw c.in-Or.is at c.formula_node.ensures)

pub returns-in-Forall-clause-some : goal.returns-in-Forall-clause-some
returns-in-Forall-clause-some c = λ class k. forall_says c.args.bank.now class c.args.f c.in-Forall.field-0 c.in-Forall.field-1 c.requires (rw c.in-Forall.is at c.formula_node.ensures)

pub returns-in-Exists-clause-some : goal.returns-in-Exists-clause-some
returns-in-Exists-clause-some c = λ class k.
    exists_says c.args.bank.now class c.args.f c.in-Exists.field-0 c.in-Exists.field-1 c.negation.result c.negation.ensures.in_bank c.negation.ensures.negation (rw c.in-Exists.is at c.formula_node.ensures)
