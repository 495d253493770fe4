use Rattle.std.proofs.Common.{◌≡◌, ℕ, Some, length}
use Rattle.std.specs.Prelude.{slice_get}
use Rattle.ss_search_clashes.proofs.ends.no_ends.Given as goal

abbrev pub invariant-loop-i : goal.invariant-loop-i
invariant-loop-i l = (length l.ends.items ≡ l._i) × ((class j : ℕ) → slice_get l.ends.items class ≡ Some (Some j) → ⊥)
