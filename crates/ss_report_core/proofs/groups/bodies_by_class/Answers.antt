use Rattle.std.proofs.Common.{map, take}
use Rattle.ss_core.specs.View as view
use Rattle.ss_report_core.proofs.BodyGroups.{one_more_body}
use Rattle.ss_report_core.proofs.groups.bodies_by_class.Goals as goal

pub loop-body-preserved : goal.loop-body-preserved
loop-body-preserved c =
    let all = c.args.bodies.now in
    one_more_body c.args.count c.loop-body.body-index all c.body-item.result c.add_body.new.groups.items c.loop-body-test.true c.body-item.is
    (c.in_ok-add_body.ensures c.args.count (map view.body (take c.loop-body.body-index all)) c.loop-body.invariant)
