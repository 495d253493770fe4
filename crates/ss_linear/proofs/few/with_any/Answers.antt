use Rattle.ss_linear.proofs.Tests.{beside}
use Rattle.ss_linear.proofs.few.with_any.Goals as goal

pub returns-in-Some : goal.returns-in-Some
returns-in-Some c = λ cs known h e. rw c.in-Some.is at (c.in_ok-parts.ensures cs known h e)

pub returns-in-None : goal.returns-in-None
returns-in-None c = λ cs known h e. beside cs known c.args.i c.with_first.result (rw c.in-None.is at (c.in_ok-parts.ensures cs known h e)) (c.with_first.ensures cs known h e)
