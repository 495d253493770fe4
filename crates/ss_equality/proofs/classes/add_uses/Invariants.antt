use Rattle.std.proofs.Common.{◌≡◌, ◌<◌, ℕ, Some, length, get_or, []}
use Rattle.std.specs.Prelude.{slice_get}
use Rattle.ss_terms.specs.declared.forms.TermId.{TermId}
use Rattle.ss_equality_rules.specs.Names.{Has}
use Rattle.ss_equality_rules.specs.Classes.{lists_of}
use Rattle.ss_equality.proofs.classes.add_uses.Given as goal

abbrev pub invariant-loop-x : goal.invariant-loop-x
invariant-loop-x l =
    (length l.users.items ≡ length l.initial.users.items)
    × ((r w : ℕ) → Has (get_or (lists_of l.initial.users.items) r []) w → Has (get_or (lists_of l.users.items) r []) w)
    × ((i : ℕ) (x : TermId) → i < l.x-index → slice_get l.arguments i ≡ Some x → Has (get_or (lists_of l.users.items) x.0 []) l.user)
