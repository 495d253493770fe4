use Rattle.ss_linear_rules.specs.Two.{Two}
use Rattle.ss_linear.proofs.Results.{if_none}
use Rattle.ss_linear.proofs.refuted.contradiction.Goals as goal

pub returns-in-Some-clause-some : goal.returns-in-Some-clause-some
returns-in-Some-clause-some c = λ cs known h. rw c.in-Some.is at (c.in_ok-found.ensures.some cs known (rw c.as_slice-read.ensures.value h))

pub returns-in-None-clause-none : goal.returns-in-None-clause-none
returns-in-None-clause-none c = λ cs known h.
    if_none c.of_many.result (Two cs known → ⊥) (rw c.in-None.is at (c.in_ok-found.ensures.none cs known (rw c.as_slice-read.ensures.value h)))
