use Rattle.std.proofs.Common.{◌≡◌, []}
use Rattle.ss_equality_rules.specs.Equal.{AreFirstFormsOf}
use Rattle.ss_equality.proofs.closing.enter_all.Given as goal

abbrev pub invariant-loop-number : goal.invariant-loop-number
invariant-loop-number l = (l.classes.log ≡ []) × (AreFirstFormsOf l.bank l.number l.classes.forms)
