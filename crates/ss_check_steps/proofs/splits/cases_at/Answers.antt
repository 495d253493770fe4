use Rattle.std.proofs.Common.{sym, ◌∙◌}
use Rattle.ss_check_steps.proofs.Numbers.{cases_of_other, cases_copied}
use Rattle.ss_check_steps.proofs.splits.cases_at.Goals as goal

pub returns-then-len-count : goal.returns-then-len-count
returns-then-len-count c =
    cases_of_other c.args.bank.now c.args.f c.args.count c.in-Or.parts (rw c.in-Or.is at c.formula_node.ensures) (λ e. c.if-len-count.true (c.len.ensures ∙ e))

pub returns-in_ok-parts-in-Or : goal.returns-in_ok-parts-in-Or
returns-in_ok-parts-in-Or c =
    cases_copied c.args.bank.now c.args.f c.args.count c.in-Or.parts c.in_ok-parts-in-Or.parts c.requires (rw c.in-Or.is at c.formula_node.ensures)
    (sym c.len.ensures ∙ c.if-len-count.false) (c.in_ok-parts-in-Or.ensures.items ∙ c.deref.ensures.value)
