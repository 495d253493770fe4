use Rattle.std.proofs.Common.{◌≡◌, ◌≤◌, ◌-◌, length, take}
use Rattle.ss_equality_rules.specs.Names.{name}
use Rattle.ss_equality.proofs.classes.Classes.name.Given as goal

abbrev pub invariant-loop-end : goal.invariant-loop-end
invariant-loop-end l = (l.seen ≤ length l.self.log) × (name (take l.seen l.self.log) l.fn.term ≡ l.class)

abbrev pub decreases-loop-end : goal.decreases-loop-end
decreases-loop-end l = length l.self.log - l.seen
