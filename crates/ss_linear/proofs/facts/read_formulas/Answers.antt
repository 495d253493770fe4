use Rattle.ss_linear.proofs.Glue.{read_more, have_more, has_formula_at}
use Rattle.ss_linear.proofs.facts.read_formulas.Goals as goal

pub sum_fact-requires : goal.sum_fact-requires
sum_fact-requires c = record {
  formula = has_formula_at c.args.bank.now c.args.known.now c.loop-f.f-index (record { 0 = 0 }) c.requires c.loop-f-test.true;
  kept = c.loop-f.invariant.kept;
}

pub loop-f-preserved : goal.loop-f-preserved
loop-f-preserved c = record {
  kept = c.in_ok-fact.ensures.kept;
  parts = have_more c.args.bank.now c.loop-f.facts.items c.push.new.self.items c.in_ok-fact.fact c.in_ok-push.ensures.items c.loop-f.invariant.parts c.in_ok-fact.ensures.terms;
  read = λ cs h. read_more cs c.args.bank.now c.args.known.now c.loop-f.f-index (record { 0 = 0 }) c.loop-f.facts.items c.push.new.self.items c.in_ok-fact.fact c.loop-f-test.true c.in_ok-push.ensures.items (c.loop-f.invariant.read cs h) (c.in_ok-fact.ensures.fact cs h);
}
