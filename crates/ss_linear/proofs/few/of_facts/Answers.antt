use Rattle.std.proofs.Common.{subst, sym, List, ℕ}
use Rattle.std.specs.Prelude.{ℤ}
use Rattle.ss_linear.specs.Contradictions.{IsContradiction}
use Rattle.ss_linear.proofs.few.of_facts.Goals as goal

pub returns-in_ok-pair-in-Some : goal.returns-in_ok-pair-in-Some
returns-in_ok-pair-in-Some c = λ cs known h ea eb.
    subst (λ (ps : List (ℕ × ℤ)). IsContradiction cs known ps) (sym c.in_ok-pair-in-Some.ensures) (rw c.in-Some.is at (c.in_ok-weights.ensures cs known h ea eb))

pub returns-in-None : goal.returns-in-None
returns-in-None c = λ cs known h ea eb. rw c.in-None.is at (c.in_ok-weights.ensures cs known h ea eb)
