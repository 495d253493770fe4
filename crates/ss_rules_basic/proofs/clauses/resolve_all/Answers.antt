use Rattle.ss_rules_basic.proofs.Planned.{has_next, says_next}
use Rattle.ss_rules_basic.proofs.clauses.resolve_all.Goals as goal

pub loop-clause-preserved : goal.loop-clause-preserved
loop-clause-preserved c = record {
  has = λ b there h. has_next c.args.made.now c.args.clauses.now c.loop-clause.clause-index _ c.loop-clause-test.true c.in_ok-sentence.sentence c.in_ok-sentence.ensures.premises c.in_ok-sentence.ensures.conclusion
      c.loop-clause.sentences.items c.push.new.self.items c.in_ok-push.ensures.items b there h (c.loop-clause.invariant.has b there h);
  says = λ b there h. says_next c.args.made.now c.args.clauses.now c.loop-clause.clause-index _ c.loop-clause-test.true c.in_ok-sentence.sentence c.in_ok-sentence.ensures.premises c.in_ok-sentence.ensures.conclusion
      c.loop-clause.sentences.items c.push.new.self.items c.in_ok-push.ensures.items b there h (c.loop-clause.invariant.says b there h);
}
