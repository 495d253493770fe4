use Rattle.std.proofs.Common.{◌≡◌, ◌≢◌, ◌≤◌, ◌-◌, length, take}
use Rattle.ss_equality_rules.specs.Names.{name}
use Rattle.ss_equality.proofs.reasons.joining.Given as goal

abbrev pub invariant-loop-end : goal.invariant-loop-end
invariant-loop-end l = (l.seen ≤ length l.classes.log) × (name (take l.seen l.classes.log) l.fn.x ≡ l.left) × (name (take l.seen l.classes.log) l.fn.y ≡ l.right) × (l.left ≢ l.right)

abbrev pub decreases-loop-end : goal.decreases-loop-end
decreases-loop-end l = length l.classes.log - l.seen
