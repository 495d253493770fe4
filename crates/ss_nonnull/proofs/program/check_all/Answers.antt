use Rattle.ss_typed.specs.View.{typed}
use Rattle.ss_nonnull.proofs.Wholes.{one_body}
use Rattle.ss_nonnull.proofs.program.check_all.Goals as goal

pub loop-checked-preserved : goal.loop-checked-preserved
loop-checked-preserved c =
    let l = c.loop-checked in
    one_body (typed c.args.fields.now.program.now) c.args.list.now l.checked-index c.checked-item.result l.found.items _ _
    c.loop-checked-test.true c.checked-item.is c.in_ok-check_whole.ensures l.invariant
