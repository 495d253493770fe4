use Rattle.std.proofs.Common.{◌≡◌, ℕ, ◌<◌, length, Some}
use Rattle.std.specs.Prelude.{slice_get}
use Rattle.ss_equality_rules.specs.Names.{name}
use Rattle.ss_equality.proofs.congruence.all_names.Given as goal

abbrev pub invariant-loop-term : goal.invariant-loop-term
invariant-loop-term l = (length l.names.items ≡ l.term) × ((k : ℕ) → k < l.term → slice_get l.names.items k ≡ Some (name l.classes.log k))
