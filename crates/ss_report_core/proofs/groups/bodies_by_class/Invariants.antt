use Rattle.std.proofs.Common.{take, map}
use Rattle.ss_core.specs.View as view
use Rattle.ss_report_core.specs.Groups.{AreGroups}
use Rattle.ss_report_core.proofs.groups.bodies_by_class.Given as goal

abbrev pub invariant-loop-body : goal.invariant-loop-body
invariant-loop-body l = AreGroups l.count (map view.body (take l.body-index l.bodies)) l.groups.items
