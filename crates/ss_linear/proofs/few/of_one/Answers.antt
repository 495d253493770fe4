use Rattle.ss_linear.proofs.Tests.{both}
use Rattle.ss_linear.proofs.few.of_one.Goals as goal

pub returns-then-branch : goal.returns-then-branch
returns-then-branch c = λ cs known h. rw c.if-branch.true at (c.in_ok-is_contradiction.ensures cs known h)

pub returns-then-branch-2 : goal.returns-then-branch-2
returns-then-branch-2 c = λ cs known h. rw c.if-branch-2.true at (c.in_ok-is_contradiction-2.ensures cs known h)

pub returns : goal.returns
returns c = λ cs known h.
    both cs known c.args.i
    (rw c.if-branch.false at (c.in_ok-is_contradiction.ensures cs known h))
    (rw c.if-branch-2.false at (c.in_ok-is_contradiction-2.ensures cs known h))
