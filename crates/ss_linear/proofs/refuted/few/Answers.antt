use Rattle.ss_linear.proofs.Tests.{refutes}
use Rattle.ss_linear.proofs.refuted.few.Goals as goal

pub returns-in_ok-alone-in-Some-clause-some : goal.returns-in_ok-alone-in-Some-clause-some
returns-in_ok-alone-in-Some-clause-some c = λ cs known h.
    refutes cs known _ _ c.in_ok-alone-in-Some.ensures (rw c.in-Some.is at (c.in_ok-found.ensures cs known h))

pub returns-in-None-clause-none : goal.returns-in-None-clause-none
returns-in-None-clause-none c = λ cs known h. rw c.in-None.is at (c.in_ok-found.ensures cs known h)
