use Rattle.ss_terms.proofs.Grown.{IsGrown-then}
use Rattle.ss_rules_basic.proofs.Made.{denied_has, denied_next, made_there}
use Rattle.ss_rules_basic.proofs.sentences.negations.Goals as goal

pub make-requires : goal.make-requires
make-requires c = denied_has c.args.b.now c.loop-fact.b c.args.facts.now c.loop-fact.fact-index _ c.negated.result c.negated.ensures c.loop-fact-test.true c.requires c.loop-fact.invariant.grown

pub loop-fact-preserved : goal.loop-fact-preserved
loop-fact-preserved c = record {
  grown = IsGrown-then c.args.b.now c.loop-fact.b c.make.new.b c.loop-fact.invariant.grown c.make.ensures.grown;
  there = made_there c.loop-fact.b c.make.new.b c.loop-fact.made.items _ c.in_ok-f.f c.make.ensures.grown c.loop-fact.invariant.there c.in_ok-f.ensures.at.0 c.in_ok-push.ensures.items;
  made = denied_next c.args.b.now c.loop-fact.b c.make.new.b c.args.facts.now c.loop-fact.fact-index _ c.negated.result c.loop-fact.made.items _ c.in_ok-f.f c.negated.ensures c.loop-fact-test.true c.requires
      c.loop-fact.invariant.grown c.make.ensures.grown c.loop-fact.invariant.there c.loop-fact.invariant.made c.in_ok-f.ensures.at.1 c.in_ok-push.ensures.items;
}
