-- Values of small expressions, each by computing.
use Rattle.std.proofs.Common.{◌≡◌, refl, ℕ, List, [], ◌∷◌, true, false}
use Rattle.std.specs.Prelude.{pos, negsuc, Ok, Err}
use Rattle.ss_core.specs.declared.names.Place.{Place}
use Rattle.ss_core.specs.declared.names.Kind.TheVariants as kind
use Rattle.ss_core.specs.declared.names.Mark.TheVariants as mark
use Rattle.ss_core.specs.declared.names.Ty.TheVariants as ty
use Rattle.ss_core.specs.declared.expr.Operator.TheVariants as op
use Rattle.ss_core.specs.declared.expr.Quantifier.TheVariants as quantifier
use Rattle.ss_core.specs.Tree.{ClassTree, Consistent, New, Level, Packed, SameOwner, OwnedAt, Defaults, OwnedFull, ConsistentArgument, Captured, ExprTree, IntExpr, BoolExpr, LocalExpr, FieldExpr, ElementExpr, LengthExpr, NegateExpr, BinaryExpr, ImpliesExpr, IsExpr, AsExpr, CastExpr, OldExpr, QuantifiedExpr, StateExpr, OwnersExpr, DefaultExpr}
use Rattle.ss_core.specs.Chain.{sub, levels, most_levels}
use Rattle.ss_store_rules.specs.declared.Value.TheVariants as value
use Rattle.ss_store_rules.specs.declared.Owner.TheVariants as owner
use Rattle.ss_store_rules.specs.Store.{Object}
use Rattle.ss_store_rules.specs.Numbers.{undefined}
use Rattle.ss_store_rules.specs.Values.{Setting, setting, truth, value_of}

-- ---- a program of two classes, 4 with the fields 0 and 1 and 6 below it, and a store with an object of 4 that owns one of 6, and
-- an array. The object 2 isn't allocated at entry.

abbrev two_classes : List ClassTree
two_classes =
    record {
      name = [];
      above = 0;
      also = [];
      fields = record { name = []; ty = ty.Int; mark = mark.Plain } ∷ record { name = []; ty = ty.Ref (record { 0 = 6 }) false; mark = mark.Rep } ∷ [];
      invariants = [];
      table = [];
    }
    ∷ record {
      name = [];
      above = 4;
      also = [];
      fields = [];
      invariants = [];
      table = [];
    }
    ∷ []

abbrev one_object : List Object
one_object =
    record {
      class = 4;
      fields = record { field = 0; content = value.Int (pos 5) } ∷ record { field = 1; content = value.Null } ∷ [];
      elements = [];
      level = 4;
      committed = false;
      owner = owner.Group 0;
      ready = true;
    }
    ∷ record {
      class = 1;
      fields = [];
      elements = value.Int (pos 7) ∷ value.Int (pos 8) ∷ [];
      level = 1;
      committed = false;
      owner = owner.Group 1;
      ready = true;
    }
    ∷ []

abbrev three_objects : List Object
three_objects =
    record {
      class = 4;
      fields = record { field = 0; content = value.Int (pos 6) } ∷ record { field = 1; content = value.Obj 2 } ∷ [];
      elements = [];
      level = 0;
      committed = false;
      owner = owner.Group 0;
      ready = true;
    }
    ∷ record {
      class = 1;
      fields = [];
      elements = value.Int (pos 7) ∷ value.Int (pos 9) ∷ [];
      level = 1;
      committed = false;
      owner = owner.Group 1;
      ready = true;
    }
    ∷ record {
      class = 6;
      fields = record { field = 0; content = value.Int (pos 0) } ∷ record { field = 1; content = value.Null } ∷ [];
      elements = [];
      level = 6;
      committed = false;
      owner = owner.Owned 0 (record { 0 = 4 });
      ready = true;
    }
    ∷ []

-- the locals are the three objects, null, the least number of 32 bits, and two numbers
abbrev here : Setting
here = setting two_classes three_objects one_object (value.Obj 0 ∷ value.Obj 1 ∷ value.Obj 2 ∷ value.Null ∷ value.Int (negsuc 2147483647) ∷ value.Int (pos 0) ∷ value.Int (negsuc 6) ∷ [])

abbrev at : ℕ → Place
at n = record { line = 1; column = n }

abbrev object : ExprTree
object = LocalExpr (at 0) 0

abbrev array : ExprTree
array = LocalExpr (at 1) 1

abbrev new : ExprTree
new = LocalExpr (at 2) 2

abbrev null : ExprTree
null = LocalExpr (at 3) 3

abbrev least : ExprTree
least = LocalExpr (at 4) 4

abbrev zero : ExprTree
zero = LocalExpr (at 5) 5

abbrev minus_seven : ExprTree
minus_seven = LocalExpr (at 6) 6

abbrev number : ℕ → ExprTree
number n = IntExpr (at 7) (pos n)

a_read : value_of (FieldExpr (at 10) object 0) here ≡ Ok (value.Int (pos 6))
a_read = refl

an_old_read : value_of (OldExpr (at 9) (FieldExpr (at 10) object 0)) here ≡ Ok (value.Int (pos 5))
an_old_read = refl

a_read_of_null : value_of (FieldExpr (at 10) null 0) here ≡ Err (undefined (at 10) kind.Null)
a_read_of_null = refl

an_old_read_of_a_new_object : value_of (OldExpr (at 9) (FieldExpr (at 10) new 0)) here ≡ Err (undefined (at 10) kind.Null)
an_old_read_of_a_new_object = refl

an_element : value_of (ElementExpr (at 10) array (number 1)) here ≡ Ok (value.Int (pos 9))
an_element = refl

an_element_past_the_end : value_of (ElementExpr (at 10) array (number 2)) here ≡ Err (undefined (at 10) kind.Index)
an_element_past_the_end = refl

an_element_before_the_first : value_of (ElementExpr (at 10) array minus_seven) here ≡ Err (undefined (at 10) kind.Index)
an_element_before_the_first = refl

the_index_before_the_null_check : value_of (ElementExpr (at 10) null (BinaryExpr (at 11) op.Divide (number 1) zero)) here ≡ Err (undefined (at 11) kind.ZeroDivisor)
the_index_before_the_null_check = refl

a_length : value_of (LengthExpr (at 10) array) here ≡ Ok (value.Int (pos 2))
a_length = refl

a_length_of_null : value_of (LengthExpr (at 10) null) here ≡ Err (undefined (at 10) kind.Null)
a_length_of_null = refl

a_quotient : value_of (BinaryExpr (at 10) op.Divide minus_seven (number 2)) here ≡ Ok (value.Int (negsuc 2))
a_quotient = refl

a_remainder : value_of (BinaryExpr (at 10) op.Remainder minus_seven (number 2)) here ≡ Ok (value.Int (negsuc 0))
a_remainder = refl

a_zero_divisor : value_of (BinaryExpr (at 10) op.Remainder minus_seven zero) here ≡ Err (undefined (at 10) kind.ZeroDivisor)
a_zero_divisor = refl

a_quotient_past_the_end : value_of (BinaryExpr (at 10) op.Divide least (IntExpr (at 11) (negsuc 0))) here ≡ Err (undefined (at 10) kind.Overflow)
a_quotient_past_the_end = refl

a_remainder_past_the_end : value_of (BinaryExpr (at 10) op.Remainder least (IntExpr (at 11) (negsuc 0))) here ≡ Err (undefined (at 10) kind.Overflow)
a_remainder_past_the_end = refl

a_negation_past_the_end : value_of (NegateExpr (at 10) least) here ≡ Err (undefined (at 10) kind.Overflow)
a_negation_past_the_end = refl

a_sum_past_the_end : value_of (BinaryExpr (at 10) op.Add (number 2147483647) (number 1)) here ≡ Err (undefined (at 10) kind.Overflow)
a_sum_past_the_end = refl

the_left_cause_first : value_of (BinaryExpr (at 12) op.Add (BinaryExpr (at 10) op.Divide (number 1) zero) (FieldExpr (at 11) null 0)) here ≡ Err (undefined (at 10) kind.ZeroDivisor)
the_left_cause_first = refl

a_false_conjunct_stops : value_of (BinaryExpr (at 12) op.And (BoolExpr (at 10) false) (FieldExpr (at 11) null 0)) here ≡ truth false
a_false_conjunct_stops = refl

a_true_disjunct_stops : value_of (BinaryExpr (at 12) op.Or (BoolExpr (at 10) true) (FieldExpr (at 11) null 0)) here ≡ truth true
a_true_disjunct_stops = refl

a_false_premise_stops : value_of (ImpliesExpr (at 12) (BoolExpr (at 10) false) (FieldExpr (at 11) null 0)) here ≡ truth true
a_false_premise_stops = refl

a_true_conjunct_goes_on : value_of (BinaryExpr (at 12) op.And (BoolExpr (at 10) true) (FieldExpr (at 11) null 0)) here ≡ Err (undefined (at 11) kind.Null)
a_true_conjunct_goes_on = refl

a_class_test : value_of (IsExpr (at 10) new 4) here ≡ truth true
unfolding sub levels most_levels
a_class_test = refl

a_class_test_of_null : value_of (IsExpr (at 10) null 4) here ≡ truth false
a_class_test_of_null = refl

an_array_is_an_object : value_of (IsExpr (at 10) array 0) here ≡ truth true
unfolding sub levels most_levels
an_array_is_an_object = refl

an_object_above : value_of (AsExpr (at 10) object 6) here ≡ Ok value.Null
unfolding sub levels most_levels
an_object_above = refl

a_failed_cast : value_of (CastExpr (at 10) 6 false object) here ≡ Err (undefined (at 10) kind.Cast)
unfolding sub levels most_levels
a_failed_cast = refl

a_cast_of_null : value_of (CastExpr (at 10) 6 false null) here ≡ Ok value.Null
a_cast_of_null = refl

a_cast_of_null_to_a_non_null_type : value_of (CastExpr (at 10) 6 true null) here ≡ Err (undefined (at 10) kind.Null)
a_cast_of_null_to_a_non_null_type = refl

each_element_is_positive : value_of (QuantifiedExpr (at 9) quantifier.Forall [] (number 0) (LengthExpr (at 10) array) (BinaryExpr (at 13) op.Less zero (ElementExpr (at 11) array (LocalExpr (at 12) 7)))) here ≡ truth true
each_element_is_positive = refl

no_member : value_of (QuantifiedExpr (at 9) quantifier.Exists [] (number 2) (number 2) (FieldExpr (at 11) null 0)) here ≡ truth false
no_member = refl

the_least_member_without_a_value : value_of (QuantifiedExpr (at 9) quantifier.Forall [] (number 0) (number 2) (BinaryExpr (at 13) op.Less (number 1) (BinaryExpr (at 11) op.Divide (number 1) (BinaryExpr (at 14) op.Subtract (number 1) (LocalExpr (at 12) 7))))) here ≡ Err (undefined (at 11) kind.ZeroDivisor)
the_least_member_without_a_value = refl

a_consistent_array : value_of (StateExpr (at 10) Consistent array) here ≡ truth true
a_consistent_array = refl

an_exposed_object : value_of (StateExpr (at 10) Consistent object) here ≡ truth false
an_exposed_object = refl

consistent_at_entry : value_of (OldExpr (at 9) (StateExpr (at 10) Consistent object)) here ≡ truth true
consistent_at_entry = refl

a_new_object : value_of (StateExpr (at 10) New new) here ≡ truth true
a_new_object = refl

a_new_object_inside_old : value_of (OldExpr (at 9) (StateExpr (at 10) New new)) here ≡ truth true
a_new_object_inside_old = refl

a_level_of_a_new_object_inside_old : value_of (OldExpr (at 9) (StateExpr (at 10) (Level 6) new)) here ≡ Err (undefined (at 10) kind.Null)
a_level_of_a_new_object_inside_old = refl

packed_below : value_of (StateExpr (at 10) (Packed 4) new) here ≡ truth true
unfolding sub levels most_levels
packed_below = refl

a_state_word_on_null : value_of (StateExpr (at 10) (Level 0) null) here ≡ Err (undefined (at 10) kind.Null)
a_state_word_on_null = refl

the_owner : value_of (OwnersExpr (at 10) (OwnedAt 4) new object) here ≡ truth true
the_owner = refl

other_owners : value_of (OwnersExpr (at 10) SameOwner new object) here ≡ truth false
other_owners = refl

owners_of_null : value_of (OwnersExpr (at 10) SameOwner new null) here ≡ Err (undefined (at 10) kind.Null)
owners_of_null = refl

owned_objects_are_full : value_of (DefaultExpr (at 10) (OwnedFull 6)) here ≡ truth true
unfolding sub levels most_levels
owned_objects_are_full = refl

fields_at_their_defaults : value_of (DefaultExpr (at 10) (Defaults 4)) here ≡ truth false
unfolding sub levels most_levels
fields_at_their_defaults = refl

a_consistent_argument : value_of (DefaultExpr (at 10) (ConsistentArgument 3)) here ≡ truth true
a_consistent_argument = refl

an_owned_argument : value_of (DefaultExpr (at 10) (Captured 2 false)) here ≡ truth false
an_owned_argument = refl

this_is_no_member : value_of (DefaultExpr (at 10) (Captured 1 true)) here ≡ truth true
this_is_no_member = refl
