use Rattle.ss_linear.proofs.many.of_many.Goals as goal

pub returns-then-is_so : goal.returns-then-is_so
returns-then-is_so c = λ cs known h. rw c.as_slice-list.ensures.value at (c.in_ok-is_so.ensures cs known h c.if-is_so.true)
