-- What is known after the parts of an expression in an invariant.
use Rattle.std.specs.Prelude.{◌≡◌, ℕ, List, [], ◌∷◌, ◌++◌, length, Bool, true, false, ◌&&◌, ◌||◌}
use Rattle.ss_core.specs.declared.names.Place.{Place}
use Rattle.ss_core.specs.declared.names.Mark.{Mark}
use Rattle.ss_typed.specs.declared.expr.TypedLink.{TypedLink}
use Rattle.ss_typed.specs.Tree.{ExprTree}
use Rattle.ss_typed.specs.Shapes.{is_this}
use Rattle.ss_typed.specs.Parts.{link_after}
use Rattle.ss_owners_rules.specs.Admissible.{field_mark, is_owned_path, is_untyped, inadmissible}
use Rattle.ss_core.specs.Marks.{is_rep, is_rep_or_peer}
use Rattle.ss_owners.specs.declared.reads.Reached.{Reached}
use Rattle.ss_owners.specs.Parts.{no_place, nothing}

-- ---- what an expression is to the step after it

abbrev pub reached : List Mark → ExprTree → Reached
reached ms e = record { is_this = is_this e; is_owned = is_owned_path ms e; is_untyped = is_untyped e }

-- neither `this` nor a path
abbrev pub other_reached : Bool → Reached
other_reached untyped = record { is_this = false; is_owned = false; is_untyped = untyped }

abbrev pub nothing_reached : Reached
nothing_reached = other_reached false

abbrev pub this_reached : Reached
this_reached = record { is_this = true; is_owned = false; is_untyped = false }

abbrev pub after_field : List Mark → Reached → ℕ → Reached
after_field ms r f = record {
  is_this = false;
  is_owned = r.is_this && is_rep (field_mark ms f) || r.is_owned && is_rep_or_peer (field_mark ms f);
  is_untyped = false;
}

-- ---- chains

-- what a link adds to the places in what stands before it
abbrev pub link_reads : List Mark → TypedLink → List Place
link_reads ms l = inadmissible ms (link_after l no_place nothing)

abbrev pub links_reads : List Mark → List TypedLink → List Place
links_reads ms [] = []
links_reads ms (l ∷ ls) = link_reads ms l ++ links_reads ms ls

-- ---- paths

-- after these places, of which there are so many, an expression was gone over, and it is this to the step after it
pub record IsRead (ms : List Mark) (start : ℕ) (before now : List Place) (r : Reached) (e : ExprTree) : Type 0 where
  pub counted : length before ≡ start
  pub is : r ≡ reached ms e
  pub noted : now ≡ before ++ inadmissible ms e

-- what stands after any expression that was gone over
pub record Leads (ms : List Mark) (start : ℕ) (old : List Place) (from : Reached) (new : List Place) (to : Reached) (behind : ExprTree → ExprTree) : Type 0 where
  pub on : (e : ExprTree) (before : List Place) → IsRead ms start before old from e → IsRead ms start before new to (behind e)
