use Rattle.std.proofs.Common.{◌≡◌, length}
use Rattle.ss_equality_rules.specs.Whole.{merges_of}
use Rattle.ss_equality_rules.specs.Reasons.{Rests}
use Rattle.ss_equality.proofs.reasons.reasons.Given as goal

abbrev pub invariant-loop : goal.invariant-loop
invariant-loop l =
    (length l.told.items ≡ length l.classes.log)
    × Rests l.classes.forms (merges_of l.merges) l.classes.log l.fn.x l.fn.y l.pending.items l.told.items l.reasons.items
