use Rattle.ss_linear_network.specs.Made.{numbers_at}
use Rattle.ss_linear.proofs.Results.{none_then}
use Rattle.ss_linear.proofs.Tests.{refutes, none_found}
use Rattle.ss_linear.proofs.refuted.two.Goals as goal

pub few-requires-clause-nodes : goal.few-requires-clause-nodes
few-requires-clause-nodes c = rw c.in-Met.is at c.in_ok-found.ensures.nodes

pub returns-in_ok-alone-in-Contradicted-clause-some : goal.returns-in_ok-alone-in-Contradicted-clause-some
returns-in_ok-alone-in-Contradicted-clause-some c = λ cs known h.
    refutes cs known _ _ c.in_ok-alone-in-Contradicted.ensures (rw c.in-Contradicted.is at (c.in_ok-found.ensures.solved cs known h))

pub returns-in-Met-clause-some : goal.returns-in-Met-clause-some
returns-in-Met-clause-some c = c.few.ensures.some

pub returns-in-Met-clause-none : goal.returns-in-Met-clause-none
returns-in-Met-clause-none c = λ cs known h.
    none_then c.few.result (λ clear. none_found cs known (numbers_at c.args.bank.now c.in-Met.numbers) (rw c.in-Met.is at (c.in_ok-found.ensures.solved cs known h)) clear) (c.few.ensures.none cs known h)
