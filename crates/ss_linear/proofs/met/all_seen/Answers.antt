use Rattle.std.proofs.Common.{◌≤◌, sym, subst, below_more, Option, arith}
use Rattle.ss_linear_sums.specs.declared.forms.SumFact.{SumFact}
use Rattle.ss_linear_sums.specs.Linear.{IsFactOf}
use Rattle.ss_linear_rules.specs.Two as two
use Rattle.ss_linear_network.specs.Made.{numbers_at}
use Rattle.ss_linear.specs.Met.{Meets, MeetsSome}
use Rattle.ss_linear.proofs.Glue.{fact_read}
use Rattle.ss_linear.proofs.Seen.{seen_meets, seen_said}
use Rattle.ss_linear.proofs.met.all_seen.Goals as goal

pub loop-k-init : goal.loop-k-init
loop-k-init c = record {
  met = λ cs known h k l. absurd (omega arith);
  said = λ cs known h k l m. absurd (omega arith);
}

pub loop-k-preserved : goal.loop-k-preserved
loop-k-preserved c =
    let v = numbers_at c.args.bank.now c.args.numbers.now in
    record {
      met = λ cs known h.
          below_more (λ k. Meets v (two.fact_at cs known k)) c.loop-k.k (c.loop-k.invariant.met cs known h)
          (seen_meets c.is_before-may_be_none.result v (two.fact_at cs known c.loop-k.k)
          (c.is_seen.ensures (two.fact_at cs known c.loop-k.k)
          (subst (λ (o : Option SumFact). IsFactOf c.args.bank.now o (two.fact_at cs known c.loop-k.k)) (sym c.index-facts-k.is) (fact_read cs c.args.bank.now known c.args.facts.now c.loop-k.k c.index-facts-k.result h c.loop-k-test.true))
          c.if-not-is_seen.false));
      said = λ cs known h.
          below_more (λ k. c.args.from ≤ k → MeetsSome v (two.fact_at cs known k)) c.loop-k.k (c.loop-k.invariant.said cs known h)
          (λ l. seen_said c.is_before-may_be_none.result v (two.fact_at cs known c.loop-k.k) (c.is_before-may_be_none.ensures l)
          (c.is_seen.ensures (two.fact_at cs known c.loop-k.k)
          (subst (λ (o : Option SumFact). IsFactOf c.args.bank.now o (two.fact_at cs known c.loop-k.k)) (sym c.index-facts-k.is) (fact_read cs c.args.bank.now known c.args.facts.now c.loop-k.k c.index-facts-k.result h c.loop-k-test.true))
          c.if-not-is_seen.false));
    }

pub returns-clause-met : goal.returns-clause-met
returns-clause-met c = λ cs known h yes k l.
    let least = c.loop-k-test.false in
    c.loop-k.invariant.met cs known h k (omega arith)

pub returns-clause-said : goal.returns-clause-said
returns-clause-said c = λ cs known h yes k l from.
    let least = c.loop-k-test.false in
    c.loop-k.invariant.said cs known h k (omega arith) from
