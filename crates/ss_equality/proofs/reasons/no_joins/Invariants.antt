use Rattle.std.proofs.Common.{◌≡◌, ◌≢◌, ℕ, Some, true, length}
use Rattle.std.specs.Prelude.{slice_get}
use Rattle.ss_equality.proofs.reasons.no_joins.Given as goal

abbrev pub invariant-loop-i : goal.invariant-loop-i
invariant-loop-i l = (length l.told.items ≡ l._i) × ((j : ℕ) → slice_get l.told.items j ≢ Some true)
