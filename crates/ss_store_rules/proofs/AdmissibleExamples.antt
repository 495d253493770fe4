-- What is admissible and what isn't, each by computing.
use Rattle.std.proofs.Common.{◌≡◌, refl, ℕ, List, [], ◌∷◌, Bool, true, false}
use Rattle.std.specs.Prelude.{pos}
use Rattle.ss_core.specs.declared.names.Place.{Place}
use Rattle.ss_core.specs.declared.names.Mark.{Mark}
use Rattle.ss_core.specs.declared.names.Mark.TheVariants as mark
use Rattle.ss_core.specs.declared.names.Ty.{Ty}
use Rattle.ss_core.specs.declared.names.Ty.TheVariants as ty
use Rattle.ss_core.specs.declared.expr.Operator.TheVariants as op
use Rattle.ss_core.specs.declared.expr.Quantifier.TheVariants as quantifier
use Rattle.ss_core.specs.Tree.{ClassTree, FieldTree, Committed, ExprTree, IntExpr, LocalExpr, FieldExpr, ElementExpr, LengthExpr, BinaryExpr, IsExpr, CastExpr, OldExpr, QuantifiedExpr, StateExpr}
use Rattle.ss_core.specs.Chain.{levels, most_levels}
use Rattle.ss_store_rules.specs.Changes.{below}
use Rattle.ss_store_rules.specs.Admissible.{is_admissible}

-- ---- two classes: 4 with the fields 0 to 4, and 6 below it with the field 5

abbrev a_field : Ty → Mark → FieldTree
a_field t m = record { name = []; ty = t; mark = m }

abbrev a_class : ℕ → List FieldTree → ClassTree
a_class up fs = record {
  name = [];
  above = up;
  also = [];
  fields = fs;
  invariants = [];
  table = [];
}

abbrev two_classes : List ClassTree
two_classes =
    a_class 0 (
    a_field ty.Int mark.Plain
    ∷ a_field (ty.Ref (record { 0 = 4 }) false) mark.Rep
    ∷ a_field (ty.Ref (record { 0 = 4 }) false) mark.Peer
    ∷ a_field (ty.Ref (record { 0 = 5 }) false) mark.Rep
    ∷ a_field (ty.Ref (record { 0 = 4 }) false) mark.Plain
    ∷ []
    )
    ∷ a_class 4 (a_field ty.Int mark.Plain ∷ [])
    ∷ []

abbrev at : Place
at = record { line = 1; column = 1 }

abbrev this : ExprTree
this = LocalExpr at 0

abbrev number : ExprTree → ExprTree
number e = FieldExpr at e 0

abbrev part : ExprTree → ExprTree
part e = FieldExpr at e 1

abbrev friend : ExprTree → ExprTree
friend e = FieldExpr at e 2

abbrev parts : ExprTree → ExprTree
parts e = FieldExpr at e 3

abbrev other : ExprTree → ExprTree
other e = FieldExpr at e 4

abbrev first : ExprTree → ExprTree
first a = ElementExpr at a (IntExpr at (pos 0))

abbrev is_admissible_at : ℕ → ExprTree → Bool
is_admissible_at t e = is_admissible two_classes t e

-- ---- fields

a_field_of_this : is_admissible_at 4 (number this) ≡ true
unfolding below levels most_levels
a_field_of_this = refl

a_field_of_a_class_above : is_admissible_at 6 (number this) ≡ true
unfolding below levels most_levels
a_field_of_a_class_above = refl

a_field_of_a_class_below : is_admissible_at 4 (FieldExpr at this 5) ≡ false
unfolding below levels most_levels
a_field_of_a_class_below = refl

a_field_of_what_is_owned : is_admissible_at 4 (number (part this)) ≡ true
unfolding below levels most_levels
a_field_of_what_is_owned = refl

a_field_of_a_peer_of_what_is_owned : is_admissible_at 4 (number (friend (part (friend (part this))))) ≡ true
unfolding below levels most_levels
a_field_of_a_peer_of_what_is_owned = refl

a_peer_itself : is_admissible_at 4 (friend this) ≡ true
unfolding below levels most_levels
a_peer_itself = refl

a_field_of_a_peer : is_admissible_at 4 (number (friend this)) ≡ false
unfolding below levels most_levels
a_field_of_a_peer = refl

a_plain_field_of_what_is_owned : is_admissible_at 4 (other (part this)) ≡ true
unfolding below levels most_levels
a_plain_field_of_what_is_owned = refl

a_path_past_a_plain_field : is_admissible_at 4 (number (other (part this))) ≡ false
unfolding below levels most_levels
a_path_past_a_plain_field = refl

a_path_with_a_cast : is_admissible_at 4 (number (CastExpr at 6 false (part this))) ≡ false
unfolding below levels most_levels
a_path_with_a_cast = refl

-- ---- arrays

an_element_of_what_is_owned : is_admissible_at 4 (first (parts (part this))) ≡ true
unfolding below levels most_levels
an_element_of_what_is_owned = refl

an_element_of_a_cast : is_admissible_at 4 (first (CastExpr at 5 false (parts this))) ≡ false
unfolding below levels most_levels
an_element_of_a_cast = refl

a_field_of_an_element : is_admissible_at 4 (number (first (parts this))) ≡ false
unfolding below levels most_levels
a_field_of_an_element = refl

a_class_test_of_an_element : is_admissible_at 4 (IsExpr at (first (parts this)) 6) ≡ true
unfolding below levels most_levels
a_class_test_of_an_element = refl

elements_and_the_length : is_admissible_at 4 (QuantifiedExpr at quantifier.Forall [] (IntExpr at (pos 0)) (LengthExpr at (parts this)) (BinaryExpr at op.NotEqual (ElementExpr at (parts this) (LocalExpr at 1)) this)) ≡ true
unfolding below levels most_levels
elements_and_the_length = refl

-- ---- words

a_state_word : is_admissible_at 4 (StateExpr at Committed this) ≡ false
a_state_word = refl

an_old_value : is_admissible_at 4 (OldExpr at (number this)) ≡ false
an_old_value = refl
