use Rattle.ss_linear.proofs.numbers.met.Goals as goal

pub returns-in-Met-clause-nodes : goal.returns-in-Met-clause-nodes
returns-in-Met-clause-nodes c = λ b h. rw c.in-Met.is at h

pub returns-in-Met-clause-met : goal.returns-in-Met-clause-met
returns-in-Met-clause-met c = λ b cs known h. rw c.in-Met.is at h
