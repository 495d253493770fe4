use Rattle.std.proofs.Common.{sym, to_z-of_z}
use Rattle.ss_linear_sums.specs.Linear.{sum_at, fact_at}
use Rattle.ss_linear_sums.proofs.Summing.{formulas_get}
use Rattle.ss_linear_sums.proofs.Weights.{no_fact, known_fact}
use Rattle.ss_linear_sums.proofs.adding.add_known.Goals as goal

pub sum_fact-requires-clause-formula : goal.sum_fact-requires-clause-formula
sum_fact-requires-clause-formula c = formulas_get c.args.context.now.bank.now c.args.context.now.known.now c.args.i c.in-Some.f c.requires.known (sym c.in-Some.ensures)

pub returns-in_default-2-clause-added : goal.returns-in_default-2-clause-added
returns-in_default-2-clause-added c = λ cs of.
    no_fact cs c.args.context.now.bank.now c.args.context.now.known.now (sum_at c.args.context.now.bank.now c.args.sum.now) c.args.i c.args.w c.in-Some.f (sym c.in-Some.ensures) (rw c.in_default-2.is at (c.in_ok-fact.ensures.fact cs of))

pub returns-clause-added : goal.returns-clause-added
returns-clause-added c = λ cs of.
    let h = rw c.in-Some-2.is at (c.in_ok-fact.ensures.fact cs of) in
    rw (known_fact cs c.args.context.now.bank.now c.args.context.now.known.now (sum_at c.args.context.now.bank.now c.args.sum.now) c.args.i c.args.w c.in-Some.f (fact_at c.args.context.now.bank.now c.in-Some-2.fact) (sym c.in-Some.ensures) h.1)
    (rw (to_z-of_z c.ranges.w) at c.add_weighted.ensures.added)
