use Rattle.std.proofs.Common.{◌≡◌, ◌<◌, ℕ, Some}
use Rattle.std.specs.Prelude.{slice_get}
use Rattle.ss_terms.specs.declared.forms.TermId.{TermId}
use Rattle.ss_equality_rules.specs.declared.Pair.{Pair}
use Rattle.ss_equality_rules.specs.Names.{Has}
use Rattle.ss_equality.proofs.reasons.tell_arguments.Given as goal

abbrev pub invariant-loop-i : goal.invariant-loop-i
invariant-loop-i l =
    ((p : Pair) → Has l.initial.pending.items p → Has l.pending.items p)
    × ((k : ℕ) (a b : TermId) → k < l.i → slice_get l.xs k ≡ Some a → slice_get l.ys k ≡ Some b → (p : Pair) × (Has l.pending.items p) × (p.left ≡ a.0) × (p.right ≡ b.0))
