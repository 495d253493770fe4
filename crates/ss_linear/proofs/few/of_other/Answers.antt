use Rattle.std.proofs.Common.{subst, sym, List, ℕ, rules, SFits, to_z-of_z}
use Rattle.std.specs.Prelude.{ℤ}
use Rattle.std.specs.Int.{w64}
use Rattle.ss_linear.specs.Contradictions.{IsContradiction}
use Rattle.ss_linear.proofs.Tests.{at_any}
use Rattle.ss_linear.proofs.few.of_other.Goals as goal

pub returns-in_ok-one-in-Some : goal.returns-in_ok-one-in-Some
returns-in_ok-one-in-Some c = λ cs known h e.
    let fits : SFits w64 c.in-Some.w = search rules in
    subst (λ (ps : List (ℕ × ℤ)). IsContradiction cs known ps) (sym (rw (to_z-of_z fits) at c.in_ok-one-in-Some.ensures)) (rw c.in-Some.is at (c.in_ok-w.ensures cs known h))

pub returns-in-None : goal.returns-in-None
returns-in-None c = λ cs known h e. at_any cs known c.args.i c.with_any.result (rw c.in-None.is at (c.in_ok-w.ensures cs known h)) (c.with_any.ensures cs known h e)
