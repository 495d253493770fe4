use Rattle.std.proofs.Common.{sym, subst, below_more, ℤ, [], ◌∷◌, Option, length, arith}
use Rattle.ss_linear_sums.specs.declared.forms.SumFact.{SumFact}
use Rattle.ss_linear_sums.specs.Linear.{IsFactOf}
use Rattle.ss_linear_rules.specs.Two as two
use Rattle.ss_linear_rules.specs.Two.{IsUnit}
use Rattle.ss_linear_rules.specs.Few.{IsNone}
use Rattle.ss_linear.proofs.Glue.{fact_read, fact_past}
use Rattle.ss_linear.proofs.Tests.{at_each, first_without}
use Rattle.ss_linear.proofs.few.with_first.Goals as goal

pub returns-in-Some : goal.returns-in-Some
returns-in-Some c = λ cs known h e.
    rw c.in-Some.is at (c.in_ok-parts.ensures cs known h e
    (subst (λ (o : Option SumFact). IsFactOf c.args.context.now.bank.now o (two.fact_at cs known c.loop-j.j)) (sym c.index-facts-j.is) (fact_read cs c.args.context.now.bank.now known c.args.context.now.facts.now c.loop-j.j c.index-facts-j.result h c.loop-j-test.true)))

pub loop-j-preserved : goal.loop-j-preserved
loop-j-preserved c = λ cs known h e.
    below_more (λ k. (w u : ℤ) → IsUnit w → IsUnit u → IsNone cs known ((k, w) ∷ (c.args.i, u) ∷ [])) c.loop-j.j (c.loop-j.invariant cs known h e)
    (rw c.in-None.is at (c.in_ok-parts.ensures cs known h e
    (subst (λ (o : Option SumFact). IsFactOf c.args.context.now.bank.now o (two.fact_at cs known c.loop-j.j)) (sym c.index-facts-j.is) (fact_read cs c.args.context.now.bank.now known c.args.context.now.facts.now c.loop-j.j c.index-facts-j.result h c.loop-j-test.true))))

pub returns : goal.returns
returns c = λ cs known h e.
    at_each (λ k. (w u : ℤ) → IsUnit w → IsUnit u → IsNone cs known ((k, w) ∷ (c.args.i, u) ∷ [])) (length c.args.context.now.facts.now)
    (λ k l. c.loop-j.invariant cs known h e k (omega arith))
    (λ k l w u x y. first_without cs known c.args.i k w u (fact_past cs c.args.context.now.bank.now known c.args.context.now.facts.now k h l))
