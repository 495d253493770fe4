use Rattle.std.proofs.Common.{inl}
use Rattle.ss_linear_sums.specs.Linear.{fact_at}
use Rattle.ss_linear_network.specs.Made.{numbers_at}
use Rattle.ss_linear.proofs.Tests.{met_at, at_other}
use Rattle.ss_linear.proofs.few.of_fact.Goals as goal

pub returns-then-is_met : goal.returns-then-is_met
returns-then-is_met c = λ cs known h e.
    inl (met_at cs known (numbers_at c.args.context.now.bank.now c.args.numbers.now) c.args.i (fact_at c.args.context.now.bank.now c.args.a.now) e (c.is_met.ensures c.if-is_met.true))

pub returns-else-is_met : goal.returns-else-is_met
returns-else-is_met c = λ cs known h e.
    at_other cs known (numbers_at c.args.context.now.bank.now c.args.numbers.now) c.args.i c.of_other.result (c.of_other.ensures cs known h e)
