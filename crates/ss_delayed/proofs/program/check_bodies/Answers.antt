use Rattle.ss_typed.specs.View.{typed}
use Rattle.ss_delayed.proofs.Whole.{bodies_more}
use Rattle.ss_delayed.proofs.program.check_bodies.Goals as goal

pub loop-written-preserved : goal.loop-written-preserved
loop-written-preserved c =
    bodies_more (typed c.args.fields.now.program.now) c.args.bodies.now c.loop-written.written-index c.written-item.result _ c.check_body.new.found.items _
    c.loop-written.invariant c.loop-written-test.true c.written-item.is c.in_ok-check_body.ensures
