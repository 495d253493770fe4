use Rattle.std.proofs.Common.{ap, option_and_then, to_z-of_z}
use Rattle.ss_logic.specs.Sums as sums
use Rattle.ss_linear_sums.specs.Linear.{sum_at, fact_at}
use Rattle.ss_linear.proofs.Results.{became}
use Rattle.ss_linear.proofs.adding.add_read.Goals as goal

pub returns-in-Some-clause-added : goal.returns-in-Some-clause-added
returns-in-Some-clause-added c = λ o e.
    became c.add_weighted.result o (fact_at c.args.bank.now c.in-Some.fact) (sums.add_weighted c.args.weight (sum_at c.args.bank.now c.args.sum.now)) (sum_at c.args.bank.now c.add_weighted.new.sum) (rw c.in-Some.is at e).1
    (rw (to_z-of_z c.ranges.weight) at c.add_weighted.ensures.added)

pub returns-in-None-clause-added : goal.returns-in-None-clause-added
returns-in-None-clause-added c = λ o e. ap (option_and_then (sums.add_weighted c.args.weight (sum_at c.args.bank.now c.args.sum.now))) (rw c.in-None.is at e)
