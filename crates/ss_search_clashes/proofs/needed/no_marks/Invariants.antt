use Rattle.std.proofs.Common.{◌≡◌, ℕ, Some, true, length}
use Rattle.std.specs.Prelude.{slice_get}
use Rattle.ss_search_clashes.proofs.needed.no_marks.Given as goal

abbrev pub invariant-loop-i : goal.invariant-loop-i
invariant-loop-i l = (length l.marks.items ≡ l._i) × ((j : ℕ) → slice_get l.marks.items j ≡ Some true → ⊥)
