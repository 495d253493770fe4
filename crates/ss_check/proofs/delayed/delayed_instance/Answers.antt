use Rattle.ss_check.proofs.delayed.delayed_instance.Goals as goal

pub returns-clause-at : goal.returns-clause-at
returns-clause-at c = rw c.in-Some.ensures.1 c.delay_at.ensures.at
