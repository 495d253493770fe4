-- The invariants of the core program that a program means.
use Rattle.std.specs.Prelude.{ℕ, ◌≡◌, ◌+◌, ◌*◌, [], true, false, Some, slice_get}
use Rattle.ss_ast.specs.Programs.{ProgramTree}
use Rattle.ss_typed.specs.Tree.{InvariantTree, MembersTree}
use Rattle.ss_owners_rules.specs.Admissible.{field_marks, inadmissible}
use Rattle.ss_resolver_rules.specs.Programs.{resolved}
use Rattle.ss_expand_rules.specs.Calls.{has_call}
use Rattle.ss_expand_rules.specs.Numbers.{plain}
use Rattle.ss_expand_rules.specs.Elaborated.{invariant_numbers, elaborated}
use Rattle.ss_store_rules.specs.Admissible.{is_admissible, AreAdmissible}

-- each invariant of each class of its elaboration is admissible there
abbrev pub HasAdmissibleInvariants : ProgramTree → Type 0
HasAdmissibleInvariants p = AreAdmissible (elaborated (resolved p)).classes

-- an invariant without calls that is admissible there has no read that is refused
abbrev pub RefusesNoMore : ProgramTree → Type 0
RefusesNoMore p =
    (k n : ℕ) (m : MembersTree) (i : InvariantTree) → slice_get (resolved p).members k ≡ Some m → slice_get m.invariants n ≡ Some i → has_call i.condition ≡ false →
    is_admissible (elaborated (resolved p)).classes (4 + 2 * k) (plain invariant_numbers i.condition) ≡ true → inadmissible (field_marks (resolved p).classes) i.condition ≡ []
