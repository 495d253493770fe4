-- Small programs, formed and not, each by computing.
use Rattle.std.proofs.Common.{◌≡◌, refl, ℕ, List, [], ◌∷◌, Bool, true, false, Some, None}
use Rattle.std.specs.Prelude.{pos}
use Rattle.ss_core.specs.declared.names.Place.{Place}
use Rattle.ss_core.specs.declared.body.BodyFlags.{BodyFlags}
use Rattle.ss_core.specs.declared.names.Mark.TheVariants as mark
use Rattle.ss_core.specs.declared.names.Ty.{Ty}
use Rattle.ss_core.specs.declared.names.Ty.TheVariants as ty
use Rattle.ss_core.specs.declared.expr.Operator.TheVariants as op
use Rattle.ss_core.specs.Tree.{ClassTree, FieldTree, LocalTree, ExposedTree, Committed, ExprTree, IntExpr, BoolExpr, NullExpr, LocalExpr, FieldExpr, LengthExpr, BinaryExpr, OldExpr, StateExpr, DefaultExpr, AtLevel, BaseConstructor, StmtTree, AssignStmt, WriteStmt, NewStmt, CallStmt, ReadyStmt, IfStmt, LoopStmt, UnpackStmt, PackStmt, AssertStmt, PrintStmt, ReturnStmt, CodeTree, NoCode, Then, AllOf, UptoOf, BodyTree, CoreTree}
use Rattle.ss_core.specs.Chain.{sub, below, levels, most_levels}
use Rattle.ss_store_rules.specs.Locals.{is_variable, each, targets_only}
use Rattle.ss_store_rules.specs.Types.{type_of, class_type}
use Rattle.ss_store_rules.specs.Typed.{is_typed, has_exposable, is_named}
use Rattle.ss_store_rules.specs.Paths.{reaches_end}
use Rattle.ss_store_rules.specs.Assigned.{reads_what_is_assigned, names_its_exposes}
use Rattle.ss_store_rules.specs.NonNull.{keeps_nulls_out}
use Rattle.ss_store_rules.specs.Construction.{keeps_this_in, packs_at_returns, returns_with_fields, starts_in_order, has_opening, writes_this_first, is_ready_with_fields}
use Rattle.ss_store_rules.specs.Tables.{StandsFor}
use Rattle.ss_store_rules.specs.Admitted.{admitted}

abbrev at : Place
at = record { line = 1; column = 1 }

-- ---- classes: 4 has an int and a reference that is never null, 6 is below it, and 8 has nothing

abbrev a_field : Ty → FieldTree
a_field t = record { name = []; ty = t; mark = mark.Plain }

abbrev a_class : ℕ → List FieldTree → ClassTree
a_class up fs = record {
  name = [];
  above = up;
  also = [];
  fields = fs;
  invariants = [];
  table = [];
}

abbrev never_null : ℕ → Ty
never_null t = ty.Ref (record { 0 = t }) true

abbrev classes : List ClassTree
classes = a_class 0 (a_field ty.Int ∷ a_field (never_null 0) ∷ []) ∷ a_class 4 [] ∷ a_class 0 [] ∷ []

-- ---- bodies

abbrev a_local : Ty → LocalTree
a_local t = record { name = []; ty = t; captured = false }

abbrev method_flags : Bool → BodyFlags
method_flags static = record {
  is_static = static;
  pure = false;
  ctor = false;
  delayed = false;
  wrapper = false;
}

abbrev constructor_flags : Bool → BodyFlags
constructor_flags is_delayed = record {
  is_static = false;
  pure = false;
  ctor = true;
  delayed = is_delayed;
  wrapper = false;
}

abbrev a_body : ℕ → BodyFlags → List LocalTree → List LocalTree → CodeTree → BodyTree
a_body t flags params locals code = record {
  class = t;
  name = [];
  params = params;
  locals = locals;
  result = None;
  entry = [];
  exit = [];
  named = [];
  flags = flags;
  code = code;
  place = at;
}

abbrev return : CodeTree
return = Then (ReturnStmt at None) NoCode

abbrev this : ExprTree
this = LocalExpr at 0

abbrev local : ℕ → ExprTree
local x = LocalExpr at x

abbrev write_reference : ExprTree → StmtTree
write_reference e = WriteStmt at this 1 mark.Plain 4 e

-- the constructor of 4 has a parameter for its reference
abbrev constructor_of_4 : CodeTree → BodyTree
constructor_of_4 code = a_body 4 (constructor_flags true) (a_local (never_null 0) ∷ []) (a_local ty.Int ∷ []) code

-- that of 6 has the same
abbrev constructor_of_6 : Bool → CodeTree → BodyTree
constructor_of_6 is_delayed code = a_body 6 (constructor_flags is_delayed) (a_local (never_null 0) ∷ []) [] code

abbrev constructor_of_8 : BodyTree
constructor_of_8 = a_body 8 (constructor_flags true) [] [] (Then (PackStmt at 0 8) return)

-- a static method of 8 with a parameter that may be null, and three locals: a reference, a reference that is never null, and a truth value
abbrev method : CodeTree → BodyTree
method code = a_body 8 (method_flags true) (a_local (class_type 4) ∷ []) (a_local (class_type 4) ∷ a_local (never_null 4) ∷ a_local ty.Bool ∷ []) code

abbrev whole_constructor : CodeTree
whole_constructor = Then (write_reference (local 1)) (Then (PackStmt at 0 4) return)

abbrev program : BodyTree → CoreTree
program b = record {
  classes = classes;
  bodies = constructor_of_4 whole_constructor ∷ constructor_of_8 ∷ b ∷ [];
  main = 2;
}

-- ---- types

a_field_below : type_of classes (never_null 6 ∷ []) (FieldExpr at this 1) ≡ Some (class_type 0)
unfolding below levels most_levels
a_field_below = refl

a_field_of_another_class : type_of classes (never_null 8 ∷ []) (FieldExpr at this 1) ≡ None
unfolding below levels most_levels
a_field_of_another_class = refl

a_sum_of_a_truth_value : type_of classes [] (BinaryExpr at op.Add (IntExpr at (pos 1)) (BoolExpr at true)) ≡ None
a_sum_of_a_truth_value = refl

abbrev has_types : CodeTree → Bool
has_types code = each (is_typed (program (method code)) (method code)) code

a_new_object : has_types (Then (NewStmt at (Some 1) 4 (local 0 ∷ [])) return) ≡ true
unfolding sub levels most_levels
a_new_object = refl

an_argument_too_few : has_types (Then (NewStmt at (Some 1) 4 []) return) ≡ false
unfolding sub levels most_levels
an_argument_too_few = refl

a_local_of_another_class : has_types (Then (NewStmt at (Some 1) 8 []) return) ≡ false
unfolding sub levels most_levels
a_local_of_another_class = refl

a_state_word_in_code : has_types (Then (PrintStmt at (Some (StateExpr at Committed (local 0))) true) return) ≡ false
a_state_word_in_code = refl

a_state_word_in_an_assert : has_types (Then (AssertStmt at (OldExpr at (StateExpr at Committed (local 0)))) return) ≡ true
a_state_word_in_an_assert = refl

-- `null.*` names nothing
what_changes_of_null : is_named classes (method return) (AllOf (NullExpr at)) ≡ true
what_changes_of_null = refl

-- ---- assigned locals

abbrev reads_well : CodeTree → Bool
reads_well code = reads_what_is_assigned (method code)

abbrev assign : ℕ → ExprTree → StmtTree
assign x e = AssignStmt at x e

assigned_on_one_path : reads_well (Then (IfStmt at (BoolExpr at true) (Then (assign 1 (local 0)) NoCode) NoCode) (Then (assign 2 (local 1)) return)) ≡ false
assigned_on_one_path = refl

assigned_where_the_other_path_ends : reads_well (Then (IfStmt at (BoolExpr at true) (Then (assign 1 (local 0)) NoCode) return) (Then (assign 2 (local 1)) return)) ≡ true
assigned_where_the_other_path_ends = refl

an_argument_is_assigned : each (targets_only (is_variable (method return))) (Then (assign 0 (NullExpr at)) return) ≡ false
an_argument_is_assigned = refl

a_loop_without_end : reaches_end (Then (LoopStmt at [] NoCode (BoolExpr at true) NoCode []) NoCode) ≡ false
a_loop_without_end = refl

-- ---- null

abbrev nulls_stay_out : CodeTree → Bool
nulls_stay_out code = keeps_nulls_out (program (method code)) (method code)

abbrev is_there : ℕ → ExprTree
is_there x = BinaryExpr at op.NotEqual (local x) (NullExpr at)

a_value_that_may_be_null : nulls_stay_out (Then (assign 2 (local 0)) return) ≡ false
a_value_that_may_be_null = refl

after_a_test : nulls_stay_out (Then (IfStmt at (is_there 0) (Then (assign 2 (local 0)) NoCode) NoCode) return) ≡ true
after_a_test = refl

-- k = x != null && true; if (k) { .. }
after_a_test_that_a_local_keeps : nulls_stay_out (Then (assign 3 (BinaryExpr at op.And (is_there 0) (BoolExpr at true))) (Then (IfStmt at (local 3) (Then (assign 2 (local 0)) NoCode) NoCode) return)) ≡ true
after_a_test_that_a_local_keeps = refl

-- k = x != null; if (k) { k = true; } if (k) { .. }
after_a_test_in_two_steps : nulls_stay_out (Then (assign 3 (is_there 0)) (Then (IfStmt at (local 3) (Then (assign 3 (BoolExpr at true)) NoCode) NoCode) (Then (IfStmt at (local 3) (Then (assign 2 (local 0)) NoCode) NoCode) return))) ≡ true
after_a_test_in_two_steps = refl

-- if (x == null || false) { } else { .. }
after_a_disjunction : nulls_stay_out (Then (IfStmt at (BinaryExpr at op.Or (BinaryExpr at op.Equal (local 0) (NullExpr at)) (BoolExpr at false)) NoCode (Then (assign 2 (local 0)) NoCode)) return) ≡ true
after_a_disjunction = refl

-- if (x == null) { return; } ..
after_an_end_that_is_not_reached : nulls_stay_out (Then (IfStmt at (BinaryExpr at op.Equal (local 0) (NullExpr at)) return NoCode) (Then (assign 2 (local 0)) return)) ≡ true
after_an_end_that_is_not_reached = refl

-- if (null != x) { .. } tells nothing, and neither does an assert
the_other_way_round : nulls_stay_out (Then (IfStmt at (BinaryExpr at op.NotEqual (NullExpr at) (local 0)) (Then (assign 2 (local 0)) NoCode) NoCode) return) ≡ false
the_other_way_round = refl

after_an_assert : nulls_stay_out (Then (AssertStmt at (is_there 0)) (Then (assign 2 (local 0)) return)) ≡ false
after_an_assert = refl

-- k = x != null; x = y; if (k) { .. }
after_an_assignment : nulls_stay_out (Then (assign 1 (local 0)) (Then (assign 3 (is_there 1)) (Then (assign 1 (local 0)) (Then (IfStmt at (local 3) (Then (assign 2 (local 1)) NoCode) NoCode) return)))) ≡ false
after_an_assignment = refl

-- while (true) { z = x; x = y; }, entered where x isn't null
a_loop_forgets_what_it_assigns : nulls_stay_out (Then (NewStmt at (Some 1) 4 (this ∷ [])) (Then (LoopStmt at [] NoCode (BoolExpr at true) (Then (assign 2 (local 1)) (Then (assign 1 (local 0)) NoCode)) []) NoCode)) ≡ false
a_loop_forgets_what_it_assigns = refl

-- ---- exposes: unpack x; while (..) { if (..) { pack x; return; } } pack x; return;

abbrev exposed : ExposedTree
exposed = record { local = 0; class = 4 }

abbrev a_loop_that_names : CodeTree → CodeTree
a_loop_that_names inside = Then (LoopStmt at [] NoCode (BoolExpr at false) (Then (IfStmt at (BoolExpr at true) (Then (PackStmt at 0 4) inside) NoCode) NoCode) (exposed ∷ [])) (Then (PackStmt at 0 4) return)

an_expose_around_a_loop : names_its_exposes (method (Then (UnpackStmt at 0 4) (a_loop_that_names return))) ≡ true
an_expose_around_a_loop = refl

an_expose_that_ends_in_the_loop : names_its_exposes (method (Then (UnpackStmt at 0 4) (a_loop_that_names NoCode))) ≡ false
an_expose_that_ends_in_the_loop = refl

-- after a return no path leads, and the loop names a local that isn't there
a_loop_that_names_nothing : each (has_exposable classes (method return)) (Then (ReturnStmt at None) (Then (LoopStmt at [] NoCode (BoolExpr at false) NoCode (record { local = 9; class = 4 } ∷ [])) NoCode)) ≡ false
a_loop_that_names_nothing = refl

no_expose_around_a_loop : names_its_exposes (method (a_loop_that_names return)) ≡ false
no_expose_around_a_loop = refl

-- ---- constructors

abbrev has_fields_of_4 : CodeTree → Bool
has_fields_of_4 code = returns_with_fields (program (constructor_of_4 code)) (constructor_of_4 code)

the_field_is_assigned : has_fields_of_4 whole_constructor ≡ true
unfolding below levels most_levels
the_field_is_assigned = refl

a_field_that_is_left_out : has_fields_of_4 (Then (PackStmt at 0 4) return) ≡ false
unfolding below levels most_levels
a_field_that_is_left_out = refl

a_field_that_is_left_out_on_one_path : has_fields_of_4 (Then (IfStmt at (BoolExpr at true) (Then (write_reference (local 1)) NoCode) NoCode) (Then (PackStmt at 0 4) return)) ≡ false
unfolding below levels most_levels
a_field_that_is_left_out_on_one_path = refl

this_stays_inside : each keeps_this_in whole_constructor ≡ true
this_stays_inside = refl

this_gets_out : each keeps_this_in (Then (write_reference this) (Then (PackStmt at 0 4) return)) ≡ false
this_gets_out = refl

packed_at_the_end : packs_at_returns 4 whole_constructor ≡ true
packed_at_the_end = refl

packed_too_soon : packs_at_returns 4 (Then (PackStmt at 0 4) (Then (write_reference (local 1)) return)) ≡ false
packed_too_soon = refl

-- a field of `this` that isn't assigned yet may be null: this.f = this.f
an_own_field_too_soon : keeps_nulls_out (program (constructor_of_4 whole_constructor)) (constructor_of_4 (Then (write_reference (FieldExpr at this 1)) return)) ≡ false
an_own_field_too_soon = refl

-- a delayed constructor of 6, below 4: base(p); pack this as 6; return;
abbrev base : StmtTree
base = CallStmt at None (BaseConstructor 0) (local 1 ∷ [])

abbrev order_of_6 : Bool → CodeTree → Bool
order_of_6 is_delayed code = starts_in_order (program (constructor_of_6 is_delayed code)) (constructor_of_6 is_delayed code)

base_once : order_of_6 true (Then base (Then (PackStmt at 0 6) return)) ≡ true
base_once = refl

base_twice : order_of_6 true (Then base (Then base return)) ≡ false
base_twice = refl

no_base : order_of_6 true return ≡ false
no_base = refl

ready_after_base : order_of_6 false (Then base (Then (ReadyStmt at) return)) ≡ true
ready_after_base = refl

ready_in_a_delayed_constructor : order_of_6 true (Then base (Then (ReadyStmt at) return)) ≡ false
ready_in_a_delayed_constructor = refl

ready_too_late : order_of_6 false (Then base (Then (PackStmt at 0 6) (Then (ReadyStmt at) return))) ≡ false
ready_too_late = refl

abbrev opens_6 : Bool → CodeTree → Bool
opens_6 is_delayed code = has_opening (program (constructor_of_6 is_delayed code)) (constructor_of_6 is_delayed code)

a_return_before_base : opens_6 true (Then (IfStmt at (BoolExpr at true) return NoCode) (Then base return)) ≡ false
a_return_before_base = refl

a_field_above_before_base : opens_6 true (Then (write_reference (local 1)) (Then base return)) ≡ false
a_field_above_before_base = refl

-- a constructor of 4 that isn't delayed: this.f = p; ready this; x = this.n; pack this as 4; return;
abbrev undelayed_of_4 : CodeTree → BodyTree
undelayed_of_4 code = record (constructor_of_4 code) { flags = constructor_flags false }

abbrev number_of_this : StmtTree
number_of_this = AssignStmt at 2 (FieldExpr at this 0)

this_after_ready : writes_this_first (undelayed_of_4 (Then (write_reference (local 1)) (Then (ReadyStmt at) (Then number_of_this return)))) ≡ true
this_after_ready = refl

this_before_ready : writes_this_first (undelayed_of_4 (Then (write_reference (local 1)) (Then number_of_this (Then (ReadyStmt at) return)))) ≡ false
this_before_ready = refl

abbrev is_ready_of_4 : CodeTree → Bool
is_ready_of_4 code = is_ready_with_fields (program (undelayed_of_4 code)) (undelayed_of_4 code)

ready_with_its_field : is_ready_of_4 (Then (write_reference (local 1)) (Then (ReadyStmt at) return)) ≡ true
ready_with_its_field = refl

ready_without_its_field : is_ready_of_4 (Then (ReadyStmt at) (Then (write_reference (local 1)) return)) ≡ false
ready_without_its_field = refl

-- the fields above count too: without `base(..)` they aren't assigned
abbrev has_fields_of_6 : CodeTree → Bool
has_fields_of_6 code = returns_with_fields (program (constructor_of_6 true code)) (constructor_of_6 true code)

the_field_above_is_assigned : has_fields_of_6 (Then base (Then (PackStmt at 0 6) return)) ≡ true
unfolding below levels most_levels
the_field_above_is_assigned = refl

the_field_above_is_left_out : has_fields_of_6 (Then (PackStmt at 0 6) return) ≡ false
unfolding below levels most_levels
the_field_above_is_left_out = refl

-- ---- tables

-- a method of the class with a result, which is at the place x of its locals and isn't negative
abbrev a_getter : ℕ → List LocalTree → ℕ → BodyTree
a_getter t locals x = record (a_body t (method_flags false) [] locals return) {
  result = Some ty.Int;
  entry = DefaultExpr at (AtLevel t) ∷ [];
  named = UptoOf this t ∷ [];
  exit = DefaultExpr at (AtLevel t) ∷ BinaryExpr at op.LessEqual (IntExpr at (pos 0)) (local x) ∷ [];
}

-- one of 4 without locals, and one of 6 with two
a_wrapper_stands_for_its_method : StandsFor (a_getter 4 [] 1) (a_getter 6 (a_local (class_type 6) ∷ a_local ty.Int ∷ []) 3)
a_wrapper_stands_for_its_method = record {
  params = refl;
  captured = refl;
  result = refl;
  static = refl;
  pure = refl;
  entry = refl;
  named = refl;
  more = [];
  exit = refl;
}

-- ---- inputs

-- a Main with a parameter of the class int[], which asks that it has an element
abbrev main : BodyTree
main = record (a_body 8 (method_flags true) (a_local (never_null 1) ∷ []) [] return) {
  entry = BinaryExpr at op.Less (IntExpr at (pos 0)) (LengthExpr at (local 0)) ∷ [];
}

an_input_with_an_element : admitted (program main) (pos 5 ∷ []) ≡ true
an_input_with_an_element = refl

an_empty_input : admitted (program main) [] ≡ false
an_empty_input = refl

no_parameter : admitted (program (a_body 8 (method_flags true) [] [] return)) (pos 5 ∷ []) ≡ false
no_parameter = refl
