use Rattle.std.proofs.Common.{◌≡◌, ℕ, sym, subst, length, Option, arith}
use Rattle.ss_linear_sums.specs.declared.forms.SumFact.{SumFact}
use Rattle.ss_linear_sums.specs.Linear.{IsFactOf}
use Rattle.ss_linear_rules.specs.Two as two
use Rattle.ss_linear_network.specs.Made.{IsNetworkOf}
use Rattle.ss_linear.proofs.Glue.{fact_read}
use Rattle.ss_linear.proofs.differences.network.Goals as goal

pub loop-k-init : goal.loop-k-init
loop-k-init c = record {
  nodes = c.new-made.ensures.nodes c.args.bank.now;
  sound = c.new-made.ensures.sound;
  network = λ cs known h. c.new-made.ensures.network c.args.bank.now cs known;
}

pub loop-k-preserved : goal.loop-k-preserved
loop-k-preserved c = record {
  nodes = c.in_ok-add_fact.ensures.nodes;
  sound = c.in_ok-add_fact.ensures.sound c.loop-k.invariant.sound;
  network = λ cs known h. c.in_ok-add_fact.ensures.network cs known
      (subst (λ (o : Option SumFact). IsFactOf c.args.bank.now o (two.fact_at cs known c.loop-k.k)) (sym c.index-facts-k.is) (fact_read cs c.args.bank.now known c.args.facts.now c.loop-k.k c.index-facts-k.result h c.loop-k-test.true))
      (c.loop-k.invariant.network cs known h);
}

pub returns-clause-network : goal.returns-clause-network
returns-clause-network c = λ cs known h.
    let most = c.loop-k.auto.k-end in
    let least = c.loop-k-test.false in
    let end : c.loop-k.k ≡ length c.args.facts.now = omega arith in
    subst (λ (n : ℕ). IsNetworkOf c.args.bank.now cs known c.loop-k.made n) end (c.loop-k.invariant.network cs known h)
