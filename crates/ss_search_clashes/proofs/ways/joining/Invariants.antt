use Rattle.std.proofs.Common.{◌≡◌, ◌≢◌, ◌≤◌, ◌-◌, length, take}
use Rattle.ss_equality_rules.specs.Names.{name}
use Rattle.ss_search_clashes.proofs.ways.joining.Given as goal

abbrev pub invariant-loop-end : goal.invariant-loop-end
invariant-loop-end l = (l.seen ≤ length l.joins) × (name (take l.seen l.joins) l.fn.x ≡ l.left) × (name (take l.seen l.joins) l.fn.y ≡ l.right) × (l.left ≢ l.right)

abbrev pub decreases-loop-end : goal.decreases-loop-end
decreases-loop-end l = length l.joins - l.seen
