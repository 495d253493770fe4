use Rattle.ss_check_steps.proofs.Stacks.{push_more}
use Rattle.ss_check_steps.proofs.cases.push_all.Goals as goal

pub loop-i-preserved : goal.loop-i-preserved
loop-i-preserved c = push_more c.loop-i.waiting.items c.push.new.self.items c.args.waiting.now.items c.args.n c.args.fs.now c.loop-i.i _ c.loop-i-test.true c.in_ok-push.ensures.items c.loop-i.invariant
