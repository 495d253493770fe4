use Rattle.std.proofs.Common.{◌∙◌, ◌++◌, ap, reverse}
use Rattle.ss_rules_occurring.proofs.Stacks.{step_bound, step_known, step_new}
use Rattle.ss_rules_occurring.proofs.walking.take_one.Goals as goal

pub returns-in-Bound : goal.returns-in-Bound
returns-in-Bound c = step_bound c.args.bank.now c.args.found.now c.args.stack.now.items c.args.t c.requires.found c.requires.stack c.in-Bound.field-0 (rw c.in-Bound.is at c.term_node.ensures)

pub returns-in_ok-put_on-in-App : goal.returns-in_ok-put_on-in-App
returns-in_ok-put_on-in-App c =
    step_new c.args.bank.now c.args.found.now c.args.stack.now.items c.args.t c.requires.found c.requires.stack c.in-App.field-0 c.in-App.arguments c.in_ok-add-in-App.field-0 c.requires.term (rw c.in-App.is at c.term_node.ensures)
    c.in_ok-add-in-App.ensures.new c.if-branch.true c.add.new.self c.in_ok-add-in-App.ensures.added c.put_on.new.stack.items (c.in_ok-put_on-in-App.ensures ∙ ap (λ ts. c.args.stack.now.items ++ reverse ts) c.deref.ensures.value)

pub returns-else-branch : goal.returns-else-branch
returns-else-branch c =
    step_known c.args.bank.now c.args.found.now c.args.stack.now.items c.args.t c.requires.found c.requires.stack c.in-App.field-0 c.in-App.arguments c.in_ok-add-in-App.field-0 (rw c.in-App.is at c.term_node.ensures)
    c.in_ok-add-in-App.ensures.new c.if-branch.false c.add.new.self c.in_ok-add-in-App.ensures.added
