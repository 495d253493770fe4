use Rattle.std.proofs.Common.{sym, subst, below_more, Option, length, arith}
use Rattle.ss_linear_sums.specs.declared.forms.SumFact.{SumFact}
use Rattle.ss_linear_sums.specs.Linear.{IsFactOf}
use Rattle.ss_linear_rules.specs.Two as two
use Rattle.ss_linear_network.specs.Made.{numbers_at}
use Rattle.ss_linear.specs.Contradictions.{IsClear}
use Rattle.ss_linear.proofs.Glue.{fact_read, fact_past}
use Rattle.ss_linear.proofs.Tests.{at_each, clear_without}
use Rattle.ss_linear.proofs.few.of_few.Goals as goal

pub returns-in-Some : goal.returns-in-Some
returns-in-Some c = λ cs known h.
    rw c.in-Some.is at (c.in_ok-parts.ensures cs known h
    (subst (λ (o : Option SumFact). IsFactOf c.args.bank.now o (two.fact_at cs known c.loop-i.i)) (sym c.index-facts-i.is) (fact_read cs c.args.bank.now known c.args.facts.now c.loop-i.i c.index-facts-i.result h c.loop-i-test.true)))

pub loop-i-preserved : goal.loop-i-preserved
loop-i-preserved c = λ cs known h.
    below_more (λ k. IsClear cs known (numbers_at c.args.bank.now c.args.numbers.now) k) c.loop-i.i (c.loop-i.invariant cs known h)
    (rw c.in-None.is at (c.in_ok-parts.ensures cs known h
    (subst (λ (o : Option SumFact). IsFactOf c.args.bank.now o (two.fact_at cs known c.loop-i.i)) (sym c.index-facts-i.is) (fact_read cs c.args.bank.now known c.args.facts.now c.loop-i.i c.index-facts-i.result h c.loop-i-test.true))))

pub returns : goal.returns
returns c = λ cs known h.
    at_each (λ k. IsClear cs known (numbers_at c.args.bank.now c.args.numbers.now) k) (length c.args.facts.now)
    (λ k l. c.loop-i.invariant cs known h k (omega arith))
    (λ k l. clear_without cs known (numbers_at c.args.bank.now c.args.numbers.now) k (fact_past cs c.args.bank.now known c.args.facts.now k h l))
