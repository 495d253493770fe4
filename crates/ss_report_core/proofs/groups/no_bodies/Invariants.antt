use Rattle.std.proofs.Common.{[]}
use Rattle.ss_report_core.specs.Groups.{AreGroups}
use Rattle.ss_report_core.proofs.groups.no_bodies.Given as goal

abbrev pub invariant-loop-i : goal.invariant-loop-i
invariant-loop-i l = AreGroups l._i [] l.groups.items
