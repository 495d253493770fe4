use Rattle.ss_linear.proofs.Tests.{four}
use Rattle.ss_linear.proofs.few.of_two.Goals as goal

pub returns : goal.returns
returns c = λ cs known h ea eb.
    four cs known c.args.i c.args.j
    (rw c.if-branch.false at (c.in_ok-is_pair.ensures cs known h ea eb))
    (rw c.if-branch-2.false at (c.in_ok-is_pair-2.ensures cs known h ea eb))
    (rw c.if-branch-3.false at (c.in_ok-is_pair-3.ensures cs known h ea eb))
    (rw c.if-branch-4.false at (c.in_ok-is_pair-4.ensures cs known h ea eb))

pub returns-then-branch : goal.returns-then-branch
returns-then-branch c = λ cs known h ea eb. rw c.if-branch.true at (c.in_ok-is_pair.ensures cs known h ea eb)

pub returns-then-branch-2 : goal.returns-then-branch-2
returns-then-branch-2 c = λ cs known h ea eb. rw c.if-branch-2.true at (c.in_ok-is_pair-2.ensures cs known h ea eb)

pub returns-then-branch-3 : goal.returns-then-branch-3
returns-then-branch-3 c = λ cs known h ea eb. rw c.if-branch-3.true at (c.in_ok-is_pair-3.ensures cs known h ea eb)

pub returns-then-branch-4 : goal.returns-then-branch-4
returns-then-branch-4 c = λ cs known h ea eb. rw c.if-branch-4.true at (c.in_ok-is_pair-4.ensures cs known h ea eb)
