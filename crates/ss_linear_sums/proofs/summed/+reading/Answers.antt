use Rattle.std.proofs.Common.{rules, SFits, to_z-of_z}
use Rattle.std.specs.Int.{w128}
use Rattle.ss_logic.specs.Sums.{linear}
use Rattle.ss_terms.specs.Forms.{term_at}
use Rattle.ss_linear_sums.proofs.Summing.{second_none}
use Rattle.ss_linear_sums.proofs.summed.+reading.Goals as goal

pub both-returns-in_default-clause-sum : goal.both-returns-in_default-clause-sum
both-returns-in_default-clause-sum t c =
    second_none (linear (term_at c.args.bank.now c.args.x)) (linear (term_at c.args.bank.now c.args.y)) c.args.n (rw c.in_default.is at c.in_ok-b.ensures.sum)

pub made-returns-in-Both-clause-sum : goal.made-returns-in-Both-clause-sum
made-returns-in-Both-clause-sum t c =
    let fits : SFits w128 c.in-Both.n = search rules in
    rw (c.in-Both.ensures.2) (rw (to_z-of_z fits) at c.both.ensures.sum)
