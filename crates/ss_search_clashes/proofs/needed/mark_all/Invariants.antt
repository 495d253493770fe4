use Rattle.std.proofs.Common.{◌≤◌, length}
use Rattle.ss_search_clashes.specs.Needed.{AreNeeded}
use Rattle.ss_search_clashes.proofs.needed.mark_all.Given as goal

abbrev pub invariant-loop-number : goal.invariant-loop-number
invariant-loop-number l = (l.number ≤ length l.context.joins.now) × AreNeeded l.context.congruence.now.terms l.context.joins.now l.xs l.ys l.number l.marks

abbrev pub decreases-loop-number : goal.decreases-loop-number
decreases-loop-number l = l.number
