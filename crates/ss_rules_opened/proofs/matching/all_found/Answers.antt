use Rattle.ss_rules_opened.proofs.Finding.{has_one_more, found_one_more}
use Rattle.ss_rules_opened.proofs.matching.all_found.Goals as goal

pub loop-o-preserved : goal.loop-o-preserved
loop-o-preserved c = record {
  has = has_one_more c.args.bank.now c.loop-o.ts.items c.push.new.self.items c.args.found.now c.loop-o.o-index _ c.in-Some.t c.loop-o.invariant.has c.requires c.loop-o-test.true c.in-Some.is c.in_ok-push-in-Some.ensures.items;
  left = found_one_more c.args.bank.now c.loop-o.ts.items c.push.new.self.items c.args.found.now c.loop-o.o-index _ c.in-Some.t _ c.loop-o-test.true c.in-Some.is c.in_ok-push-in-Some.ensures.items c.loop-o.invariant.left;
}
