use Rattle.std.proofs.Common.{[], length, ◌-◌}
use Rattle.ss_equality_rules.specs.Whole.{IsOnTheWay, numbers}
use Rattle.ss_equality.proofs.closing.sign_first.Given as goal

abbrev pub invariant-loop-term : goal.invariant-loop-term
invariant-loop-term l = IsOnTheWay l.classes.forms [] l.classes.log l.signatures l.pending.items (numbers l.term (length l.classes.forms - l.term))
