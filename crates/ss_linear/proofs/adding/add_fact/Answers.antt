use Rattle.std.proofs.Common.{subst, sym, ap, Option, option_and_then, to_z-of_z, arith}
use Rattle.ss_logic.specs.Sums as sums
use Rattle.ss_linear_sums.specs.declared.forms.SumFact.{SumFact}
use Rattle.ss_linear_sums.specs.Linear.{sum_at, IsFactOf}
use Rattle.ss_linear_rules.specs.Two.{fact_at}
use Rattle.ss_linear.proofs.Glue.{fact_read, fact_past}
use Rattle.ss_linear.proofs.adding.add_fact.Goals as goal

pub returns-then-place-facts-clause-added : goal.returns-then-place-facts-clause-added
returns-then-place-facts-clause-added c = λ cs known h.
    rw (to_z-of_z c.ranges.weight) at (c.add_read.ensures.added (fact_at cs known c.args.place)
    (subst (λ (o : Option SumFact). IsFactOf c.args.bank.now o (fact_at cs known c.args.place)) (sym c.index-facts-place.is)
    (fact_read cs c.args.bank.now known c.args.facts.now c.args.place c.index-facts-place.result h (let l = c.if-place-facts.true in omega arith))))

pub returns-else-place-facts-clause-added : goal.returns-else-place-facts-clause-added
returns-else-place-facts-clause-added c = λ cs known h.
    ap (option_and_then (sums.add_weighted c.args.weight (sum_at c.args.bank.now c.args.sum.now)))
    (fact_past cs c.args.bank.now known c.args.facts.now c.args.place h (let l = c.if-place-facts.false in omega arith))
