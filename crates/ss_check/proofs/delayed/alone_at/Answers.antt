use Rattle.ss_check.proofs.delayed.alone_at.Goals as goal

pub returns-clause-at : goal.returns-clause-at
returns-clause-at c = rw c.in-Some.ensures.2 c.put.ensures.at
