-- What is looked up by the number of a class.
use Rattle.std.specs.Prelude.{ℕ, Option, Some, None, option_and_then, slice_get}
use Rattle.ss_core.specs.Tree as core
use Rattle.ss_core.specs.Chain.{declared}
use Rattle.ss_typed.specs.Tree.{MembersTree, TypedTree}
use Rattle.ss_typed.specs.Lookups.{class_place, members_of}

-- what holds of the members of every class, and of none, holds of what is found
pub of_members : (P : Option MembersTree → Type 0) → P None → (p : TypedTree) (t : ℕ) → ((i : ℕ) → P (slice_get p.members i)) → P (members_of p t)
of_members P none p t each = by (declared p.classes t)
  where
    by : (c : Option core.ClassTree) → P (option_and_then (λ (x : core.ClassTree). slice_get p.members (class_place t)) c)
    by None = none
    by (Some c) = each (class_place t)
