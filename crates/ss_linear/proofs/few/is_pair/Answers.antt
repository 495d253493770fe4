use Rattle.ss_linear.proofs.few.is_pair.Goals as goal

pub returns-then-may_contradict : goal.returns-then-may_contradict
returns-then-may_contradict c = λ cs known h ea eb. c.is_contradiction.ensures cs known h
