use Rattle.ss_core.specs.View as view
use Rattle.ss_frames.proofs.Naming.{picked_next}
use Rattle.ss_frames.proofs.marks.pick.Goals as goal

pub loop-mark-preserved : goal.loop-mark-preserved
loop-mark-preserved c =
    picked_next (view.classes c.args.classes.now) c.args.part c.args.marks.now c.loop-mark.mark-index _ c.loop-mark.made.items _ c.names-wanted.result c.loop-mark-test.true c.loop-mark.invariant c.names-wanted.ensures c.in_ok-add.ensures
