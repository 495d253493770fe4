-- What is lifted out of an expression passes, and what is left of it has its type.
use Rattle.std.proofs.Common.{◌≡◌, ℕ, ◌+◌, List, [], ◌∷◌, ◌++◌, length, Bool, true, false, Option, Some, None, refl, sym, ◌∙◌, ap, subst, inl, inr, ◌⊎◌, ⊎_elim}
use Rattle.std.specs.Prelude.{not, ◌==◌, ◌&&◌, ◌||◌, if◌then◌else◌, slice_get, is_some}
use Rattle.std.proofs.lemmas.Bool.{and_parts, and_from, eq-eqb, false≢true}
use Rattle.std.proofs.lemmas.Option.{same_Some}
use Rattle.ss_core.specs.declared.names.Place.{Place}
use Rattle.ss_core.specs.declared.names.Ty.{Ty}
use Rattle.ss_core.specs.declared.names.Ty.TheVariants as ty
use Rattle.ss_core.specs.declared.expr.Operator.{Operator}
use Rattle.ss_core.specs.declared.expr.Operator.TheVariants as op
use Rattle.ss_core.specs.Tree as core
use Rattle.ss_core.specs.Tree.{LocalExpr, NullExpr, FieldExpr, ElementExpr, LengthExpr, NegateExpr, NotExpr, BinaryExpr, IffExpr, IsExpr, AsExpr, CastExpr, CalleeTree, Dispatched, NewStmt, NewArrayStmt, CallStmt, IfStmt, NoCode}
use Rattle.ss_core.specs.View.{code_of}
use Rattle.ss_core.specs.Chain.{is_declared}
use Rattle.ss_core.specs.Types.{nullable}
use Rattle.ss_typed.specs.Tree.{ExprTree, IntOf, BoolOf, NullOf, ThisOf, LocalOf, ResultOf, BoundOf, OldOf, QuantifiedOf, StateOf, OwnersOf, IffOf, ImpliesOf, BinaryOf, IsOf, AsOf, NegateOf, NotOf, CastOf, FieldOf, ElementOf, LengthOf, NewOf, NewArrayOf, CallOf, StaticOf, BaseOf, Arguments, NoMore, Argument}
use Rattle.ss_typed.specs.Types.{class_type, type_of}
use Rattle.ss_typed.specs.Types as typed
use Rattle.ss_owners_rules.specs.Words.{NoWord, misplaced, misplaced_each}
use Rattle.ss_expand_rules.specs.Numbers.{plain, plain_arguments}
use Rattle.ss_expand_rules.specs.Calls.{has_call, have_call, is_lazy}
use Rattle.ss_typed.specs.Shapes.{place_of}
use Rattle.ss_expand_rules.specs.Program.{above_of, method_at, number_of_written}
use Rattle.ss_expand_rules.specs.Lifting.{Opened, ElaborationContext, Source, Pure, Created, CreatedArray, Called, put, Lifted, Valued, Listed, unlifted, next, temporary_type, any_object, in_temporary, valued_from, valued, lifted_of, operand, unary, lazily, holds, fails, negated, operation, implication, no_operands, operands_of, and_operands, called, only_of, dispatched, static_class, class_of_type, base_number, types_of_constructor, types_of_written, types_of_method, lifted, in_temporaries, right_side, value, arguments_of}
use Rattle.ss_store_rules.specs.Changes.{below, is_array}
use Rattle.ss_store_rules.specs.Locals.{is_result}
use Rattle.ss_store_rules.specs.Types.{has_fitting, fits_type, is_int, is_bool, has_class, is_reference, operation_type, element_of, in_code, is_condition, code_type}
use Rattle.ss_store_rules.specs.Types as types
use Rattle.ss_store_rules.specs.Typed.{callee_of, constructor_of, fits_declared, has_type_in, have_types_in, is_typed, is_receiver, is_call_of}
use Rattle.ss_expand_formed.proofs.Facts.{none_left, or_false}
use Rattle.ss_expand_formed.proofs.Shape.{each-append}
use Rattle.ss_expand_formed.proofs.Growing.{Begins, begins_append, last_at, operand_begins, lifted_of_begins, lifted_begins, in_temporaries_begin, valued_from_begins}
use Rattle.ss_expand_formed.proofs.Fit.{IsCallee, Fits}
use Rattle.ss_expand_formed.proofs.Plain.{bare, bare_int, bare_bool, bare_reference, bare_class, bare_fitting}
use Rattle.ss_expand_formed.proofs.Fits.{can_lift, can_lift_all, FitCode, FitArguments}
use Rattle.ss_expand_formed.proofs.Values.{Frame, elaboration_context, Takes, Agrees, passes, Passing, HasMade, no_null_int, no_null_bool, no_null_class, some_int, some_bool, some_class, some_reference, some_fitting, fitting_itself, temporary_takes, temporary_is, element_is, tys, type_in, all_code, Is, code_is, plain_is, made_before, local_is}

pub bare_declared : (C : List core.ClassTree) (t o : Option Ty) → fits_declared C (bare t) o ≡ fits_declared C t o
bare_declared C t None = refl
bare_declared C t (Some u) = bare_fitting C t u

-- the tests of operands agree
pub record Like (u t : Option Ty) : Type 0 where
  pub int : is_int u ≡ is_int t
  pub bool : is_bool u ≡ is_bool t
  pub reference : is_reference u ≡ is_reference t

pub operation_like : (o : Operator) (u v t s : Option Ty) → Like u t → Like v s → operation_type o u v ≡ operation_type o t s
operation_like op.Or u v t s l m = rw (l.bool, m.bool) refl
operation_like op.And u v t s l m = rw (l.bool, m.bool) refl
operation_like op.Equal u v t s l m = rw (l.int, m.int, l.bool, m.bool, l.reference, m.reference) refl
operation_like op.NotEqual u v t s l m = rw (l.int, m.int, l.bool, m.bool, l.reference, m.reference) refl
operation_like op.Less u v t s l m = rw (l.int, m.int) refl
operation_like op.LessEqual u v t s l m = rw (l.int, m.int) refl
operation_like op.Greater u v t s l m = rw (l.int, m.int) refl
operation_like op.GreaterEqual u v t s l m = rw (l.int, m.int) refl
operation_like op.Add u v t s l m = rw (l.int, m.int) refl
operation_like op.Subtract u v t s l m = rw (l.int, m.int) refl
operation_like op.Multiply u v t s l m = rw (l.int, m.int) refl
operation_like op.Divide u v t s l m = rw (l.int, m.int) refl
operation_like op.Remainder u v t s l m = rw (l.int, m.int) refl

operation_plain : (o : Operator) → Some (typed.operation_type o) ≡ bare (Some (typed.operation_type o))
operation_plain op.Or = refl
operation_plain op.And = refl
operation_plain op.Equal = refl
operation_plain op.NotEqual = refl
operation_plain op.Less = refl
operation_plain op.LessEqual = refl
operation_plain op.Greater = refl
operation_plain op.GreaterEqual = refl
operation_plain op.Add = refl
operation_plain op.Subtract = refl
operation_plain op.Multiply = refl
operation_plain op.Divide = refl
operation_plain op.Remainder = refl

same_class : (test : ℕ → Bool) (t : Option Ty) → has_class test t ≡ true → has_class (λ c. c == class_of_type t) t ≡ true
same_class test None h = absurd (false≢true h)
same_class test (Some ty.Int) h = absurd (false≢true h)
same_class test (Some ty.Bool) h = absurd (false≢true h)
same_class test (Some ty.Null) h = absurd (false≢true h)
same_class test (Some (ty.Ref c n)) h = eq-eqb c.0 c.0 refl

where_true : (c : Bool) (t u : Ty) → types.where_typed c t ≡ Some u → c ≡ true
where_true true t u h = refl
where_true false t u h = absurd (let x : ⊥ = cc in x)

no_pair : (b : Bool) → (b && false) ≡ true → ⊥
no_pair true h = false≢true h
no_pair false h = false≢true h

no_pairs : (a b c : Bool) → (a && false || b && false || c && false) ≡ true → ⊥
no_pairs true true true h = false≢true h
no_pairs true true false h = false≢true h
no_pairs true false true h = false≢true h
no_pairs true false false h = false≢true h
no_pairs false true true h = false≢true h
no_pairs false true false h = false≢true h
no_pairs false false true h = false≢true h
no_pairs false false false h = false≢true h

none_first : (o : Operator) (t : Option Ty) (u : Ty) → operation_type o None t ≡ Some u → ⊥
none_first op.Or t u h = cc
none_first op.And t u h = cc
none_first op.Equal t u h = cc
none_first op.NotEqual t u h = cc
none_first op.Less t u h = cc
none_first op.LessEqual t u h = cc
none_first op.Greater t u h = cc
none_first op.GreaterEqual t u h = cc
none_first op.Add t u h = cc
none_first op.Subtract t u h = cc
none_first op.Multiply t u h = cc
none_first op.Divide t u h = cc
none_first op.Remainder t u h = cc

none_second : (o : Operator) (t : Option Ty) (u : Ty) → operation_type o t None ≡ Some u → ⊥
none_second op.Or t u h = no_pair (is_bool t) (where_true _ _ _ h)
none_second op.And t u h = no_pair (is_bool t) (where_true _ _ _ h)
none_second op.Equal t u h = no_pairs (is_int t) (is_bool t) (is_reference t) (where_true _ _ _ h)
none_second op.NotEqual t u h = no_pairs (is_int t) (is_bool t) (is_reference t) (where_true _ _ _ h)
none_second op.Less t u h = no_pair (is_int t) (where_true _ _ _ h)
none_second op.LessEqual t u h = no_pair (is_int t) (where_true _ _ _ h)
none_second op.Greater t u h = no_pair (is_int t) (where_true _ _ _ h)
none_second op.GreaterEqual t u h = no_pair (is_int t) (where_true _ _ _ h)
none_second op.Add t u h = no_pair (is_int t) (where_true _ _ _ h)
none_second op.Subtract t u h = no_pair (is_int t) (where_true _ _ _ h)
none_second op.Multiply t u h = no_pair (is_int t) (where_true _ _ _ h)
none_second op.Divide t u h = no_pair (is_int t) (where_true _ _ _ h)
none_second op.Remainder t u h = no_pair (is_int t) (where_true _ _ _ h)

-- both operands have types
operands_typed : (o : Operator) (t s : Option Ty) (u : Ty) → operation_type o t s ≡ Some u → (is_some t ≡ true) × (is_some s ≡ true)
operands_typed o None s u h = absurd (none_first o s u h)
operands_typed o (Some t) None u h = absurd (none_second o (Some t) u h)
operands_typed o (Some t) (Some s) u h = (refl, refl)

no_word : {X : Type 0} (p : Place) (ps : List Place) → p ∷ ps ≡ [] → X
no_word p ps h = absurd (let x : ⊥ = cc in x)

no_state : {X : Type 0} (p : Place) (w : core.WordTree) (e : ExprTree) → misplaced NoWord (StateOf p w e) ≡ [] → X
no_state p core.Consistent e h = no_word p (misplaced NoWord e) h
no_state p core.Committed e h = no_word p (misplaced NoWord e) h
no_state p core.New e h = no_word p (misplaced NoWord e) h
no_state p (core.Level t) e h = no_word p (misplaced NoWord e) h
no_state p (core.Packed t) e h = no_word p (misplaced NoWord e) h
no_state p core.Unowned e h = no_word p (misplaced NoWord e) h

module _ (z : Frame) (agrees : Agrees z) (constructs : Bool) where
  abbrev C : List core.ClassTree
  C = z.program.classes

  abbrev pub IsIn : core.ExprTree → Option Ty → Type 0
  IsIn a u = Is z agrees a u

  abbrev pub Coding : ExprTree → Type 0
  Coding e = FitCode z.typed C z.context constructs z.first e

  -- a statement that makes a value of this type, which is dropped or kept in a local that takes it
  abbrev pub Gives : Source → Option Ty → Type 0
  Gives (Pure a) t = IsIn a (bare t)
  Gives (Created p c es) t = (is_typed z.program z.body (NewStmt p None c es) ≡ true) × (t ≡ Some (class_type c true))
  Gives (CreatedArray p c a) t = (is_typed z.program z.body (NewArrayStmt p None c a) ≡ true) × (t ≡ Some (class_type c true))
  Gives (Called p callee es) t = (is_typed z.program z.body (CallStmt p None callee es) ≡ true) × ((y : core.BodyTree) → callee_of z.program z.body callee ≡ Some y → y.result ≡ t) × (t ≡ Some ty.Null → ⊥)

  abbrev pub Lifts : Lifted → Option Ty → Type 0
  Lifts l t = Passing z l.code × Gives l.source t

  -- it has the type, or that which is wanted of null
  abbrev pub Holds : core.ExprTree → Option Ty → Ty → Type 0
  Holds a t w = IsIn a (bare t) ⊎ ((t ≡ Some ty.Null) × IsIn a (Some (nullable w)))

  abbrev pub Values : Valued → Option Ty → Ty → Type 0
  Values v t w = Passing z v.code × Holds v.value t w

  abbrev pub Lists : Listed → List Ty → Type 0
  Lists l ts = Passing z l.code × (have_types_in C z.body l.values ts ≡ true)

  -- ---- what a value is

  pub holds_exactly : (a : core.ExprTree) (t : Option Ty) (w : Ty) → Holds a t w → (t ≡ Some ty.Null → ⊥) → IsIn a (bare t)
  holds_exactly a t w h other = ⊎_elim (λ i. i) (λ n. absurd (other n.0)) h

  holds_code : (a : core.ExprTree) (t : Option Ty) (w : Ty) → Holds a t w → all_code z agrees a ≡ true
  holds_code a t w h = ⊎_elim (λ i. i.0) (λ n. n.1.0) h

  holds_like : (a : core.ExprTree) (t : Option Ty) → Holds a t any_object → Like (type_in z agrees a) t
  holds_like a t h =
      ⊎_elim
      (λ i. record { int = ap is_int i.1 ∙ bare_int t; bool = ap is_bool i.1 ∙ bare_bool t; reference = ap is_reference i.1 ∙ bare_reference t })
      (λ n. record { int = ap is_int n.1.1 ∙ sym (ap is_int n.0); bool = ap is_bool n.1.1 ∙ sym (ap is_bool n.0); reference = ap is_reference n.1.1 ∙ sym (ap is_reference n.0) })
      h

  bare_has_type : (a : core.ExprTree) (t : Option Ty) (u : Ty) → IsIn a (bare t) → has_fitting C t u ≡ true → has_type_in C z.body a u ≡ true
  bare_has_type a t u i h = ap (λ o. has_fitting C o u) (code_is z agrees a (bare t) i) ∙ bare_fitting C t u ∙ h

  pub holds_type : (a : core.ExprTree) (t : Option Ty) (u : Ty) → Holds a t u → has_fitting C t u ≡ true → has_type_in C z.body a u ≡ true
  holds_type a t u h g =
      ⊎_elim (λ i. bare_has_type a t u i g) (λ n. ap (λ o. has_fitting C o u) (code_is z agrees a (Some (nullable u)) n.1) ∙ fitting_itself C t u g) h

  pub condition_is : (a : core.ExprTree) (t : Option Ty) → IsIn a (bare t) → is_bool t ≡ true → is_condition C z.body in_code a ≡ true
  condition_is a t i h = ap is_bool (code_is z agrees a (bare t) i) ∙ bare_bool t ∙ h

  -- ---- temporaries

  kept_call : (x : ℕ) (es : List core.ExprTree) (o : Option core.BodyTree) (t : Option Ty) → ((y : core.BodyTree) → o ≡ Some y → y.result ≡ t) → is_call_of C z.body None es o ≡ true → fits_declared C t (slice_get (tys z agrees) x) ≡ true → is_call_of C z.body (Some x) es o ≡ true
  kept_call x es None t r h g = absurd (false≢true h)
  kept_call x es (Some y) t r h g = and_from _ _ (and_parts _ _ h).0 (ap (λ u. fits_declared C u (slice_get (tys z agrees) x)) (r y refl) ∙ g)

  pub put_passes : (p : Place) (x : ℕ) (d : Source) (t : Option Ty) → Gives d t → fits_declared C t (slice_get (tys z agrees) x) ≡ true → Passing z (put p x d ∷ [])
  put_passes p x (Pure a) t h g =
      let fit : is_typed z.program z.body (core.AssignStmt p x a) ≡ true = ap (λ u. fits_declared C u (slice_get (tys z agrees) x)) (code_is z agrees a (bare t) h) ∙ bare_declared C t (slice_get (tys z agrees) x) ∙ g in
      and_from _ _ (and_from _ _ fit refl) refl
  put_passes p x (Created q c es) t h g =
      let one = and_parts (is_declared C c && true) _ h.0 in
      let kept : fits_declared C (Some (types.class_type c)) (slice_get (tys z agrees) x) ≡ true = bare_declared C (Some (class_type c true)) (slice_get (tys z agrees) x) ∙ ap (λ u. fits_declared C u (slice_get (tys z agrees) x)) (sym h.1) ∙ g in
      and_from _ _ (and_from _ _ (and_from _ _ (and_from _ _ (and_parts (is_declared C c) true one.0).0 kept) one.1) refl) refl
  put_passes p x (CreatedArray q c a) t h g =
      let one = and_parts (is_array C c && true) _ h.0 in
      let kept : fits_declared C (Some (types.class_type c)) (slice_get (tys z agrees) x) ≡ true = bare_declared C (Some (class_type c true)) (slice_get (tys z agrees) x) ∙ ap (λ u. fits_declared C u (slice_get (tys z agrees) x)) (sym h.1) ∙ g in
      and_from _ _ (and_from _ _ (and_from _ _ (and_from _ _ (and_parts (is_array C c) true one.0).0 kept) one.1) refl) refl
  put_passes p x (Called q callee es) t h g =
      let both = and_parts (is_receiver C z.body callee) (is_call_of C z.body None es (callee_of z.program z.body callee)) h.0 in
      and_from _ _ (and_from _ _ (and_from _ _ both.0 (kept_call x es (callee_of z.program z.body callee) t h.1 both.1 g)) refl) refl

  pub made_last : (ms : List Ty) (t : Ty) → HasMade z (ms ++ t ∷ []) → (slice_get (tys z agrees) (z.numbers.first_temporary + length ms) ≡ Some t) × (is_result z.body (z.numbers.first_temporary + length ms) ≡ false) × (slice_get z.context.locals (z.numbers.first_temporary + length ms) ≡ Some t)
  made_last ms t m = m (length ms) t (last_at ms t)

  -- in a temporary of this type
  pub kept_in : (p : Place) (u : Ty) (l : Lifted) (t : Option Ty) → Lifts l t → has_fitting C t u ≡ true → HasMade z (l.made ++ u ∷ []) → Passing z (in_temporary z.numbers p u l).code × IsIn (in_temporary z.numbers p u l).value (Some (nullable u))
  kept_in p u l t h g m =
      let at = made_last l.made u m in
      let x = next z.numbers l.made in
      let fit : fits_declared C t (slice_get (tys z agrees) x) ≡ true = ap (fits_declared C t) at.0 ∙ g in
      (each-append (passes z) l.code (put p x l.source ∷ []) h.0 (put_passes p x l.source t h.1 fit), local_is z agrees p x u at.0 at.1)

  pub temporary_passes : (p : Place) (w : Ty) (l : Lifted) (t : Option Ty) → Lifts l t → is_some t ≡ true → (t ≡ Some ty.Null → fits_type C ty.Null w ≡ true) → HasMade z (l.made ++ temporary_type w t ∷ []) → Values (in_temporary z.numbers p (temporary_type w t) l) t w
  temporary_passes p w l t h some null m =
      let r = kept_in p (temporary_type w t) l t h (temporary_takes C w t some null) m in
      let a = (in_temporary z.numbers p (temporary_type w t) l).value in
      (r.0, ⊎_elim (λ e. inl (r.1.0, r.1.1 ∙ e)) (λ n. inr (n.0, (r.1.0, r.1.1 ∙ ap Some n.1))) (temporary_is w t some))

  -- a value as an expression
  called_passes : (e : ExprTree) (l : Lifted) → Lifts l (type_of e) → is_some (type_of e) ≡ true → (type_of e ≡ Some ty.Null → ⊥) → HasMade z (l.made ++ temporary_type any_object (type_of e) ∷ []) →
      Passing z (in_temporary z.numbers (place_of e) (temporary_type any_object (type_of e)) l).code × IsIn (in_temporary z.numbers (place_of e) (temporary_type any_object (type_of e)) l).value (bare (type_of e))
  called_passes e l h some other m =
      let r = temporary_passes (place_of e) any_object l (type_of e) h some (λ n. absurd (other n)) m in
      (r.0, holds_exactly (in_temporary z.numbers (place_of e) (temporary_type any_object (type_of e)) l).value (type_of e) any_object r.1 other)

  marked_not_null : (t : Option Ty) (c : ℕ) → t ≡ Some (class_type c true) → t ≡ Some ty.Null → ⊥
  marked_not_null t c h n = no_null_class (λ x. true) t (ap (has_class (λ x. true)) h) n

  valued_from_passes : (e : ExprTree) (l : Lifted) (d : Source) → Lifts l (type_of e) → Gives d (type_of e) → is_some (type_of e) ≡ true → HasMade z (valued_from z.numbers e l d).made → Passing z (valued_from z.numbers e l d).code × IsIn (valued_from z.numbers e l d).value (bare (type_of e))
  valued_from_passes e l (Pure a) h g some m = (h.0, g)
  valued_from_passes e l (Created p c es) h g some m = called_passes e l h some (marked_not_null (type_of e) c g.1) m
  valued_from_passes e l (CreatedArray p c a) h g some m = called_passes e l h some (marked_not_null (type_of e) c g.1) m
  valued_from_passes e l (Called p callee es) h g some m = called_passes e l h some g.2 m

  pub valued_passes : (e : ExprTree) (l : Lifted) → Lifts l (type_of e) → is_some (type_of e) ≡ true → HasMade z (valued z.numbers e l).made → Passing z (valued z.numbers e l).code × IsIn (valued z.numbers e l).value (bare (type_of e))
  valued_passes e l h some m = valued_from_passes e l l.source h h.1 some m

  -- ---- operands

  module _ (os : List Opened) where
    abbrev s : ElaborationContext
    s = elaboration_context z os

    -- what the lifting of the expression gives, where it has a call
    abbrev Lifting : ExprTree → Type 0
    Lifting e = (made : List Ty) → has_call e ≡ true → HasMade z (lifted s e made).made → Lifts (lifted s e made) (type_of e)

    lifted_of_passes : (e : ExprTree) (made : List Ty) → Coding e → HasMade z (lifted_of z.numbers e (lifted s e) made).made → Lifting e → Lifts (lifted_of z.numbers e (lifted s e) made) (type_of e)
    lifted_of_passes e made f m rec = by (has_call e) refl m
      where
        by : (b : Bool) → has_call e ≡ b → HasMade z (if b then lifted s e made else unlifted (plain z.numbers e) made).made → Lifts (if b then lifted s e made else unlifted (plain z.numbers e) made) (type_of e)
        by true i m = rec made i m
        by false i m = (refl, plain_is z agrees e f.0 f.1 i)

    operand_passes : (w : Ty) (e : ExprTree) (made : List Ty) → Coding e → is_some (type_of e) ≡ true → (type_of e ≡ Some ty.Null → fits_type C ty.Null w ≡ true) → HasMade z (operand z.numbers w e (lifted s e) made).made → Lifting e → Values (operand z.numbers w e (lifted s e) made) (type_of e) w
    operand_passes w e made f some null m rec = by (is_lazy e && has_call e) refl m
      where
        kind : Ty
        kind = temporary_type w (type_of e)

        by : (b : Bool) → (is_lazy e && has_call e) ≡ b → HasMade z (if b then valued z.numbers e (lifted s e made) else in_temporary z.numbers (place_of e) (temporary_type w (type_of e)) (lifted_of z.numbers e (lifted s e) made)).made →
            Values (if b then valued z.numbers e (lifted s e made) else in_temporary z.numbers (place_of e) (temporary_type w (type_of e)) (lifted_of z.numbers e (lifted s e) made)) (type_of e) w
        by true i m =
            let l = lifted s e made in
            let h = rec made (and_parts (is_lazy e) (has_call e) i).1 (made_before z agrees l.made (valued z.numbers e l).made (valued_begins e l) m) in
            let r = valued_passes e l h some m in (r.0, inl r.1)
          where
            valued_begins : (e : ExprTree) (l : Lifted) → Begins l.made (valued z.numbers e l).made
            valued_begins e l = valued_from_begins z.numbers e l l.source
        by false i m =
            let l = lifted_of z.numbers e (lifted s e) made in
            temporary_passes (place_of e) w l (type_of e) (lifted_of_passes e made f (made_before z agrees l.made (l.made ++ temporary_type w (type_of e) ∷ []) (begins_append l.made (temporary_type w (type_of e) ∷ [])) m) rec) some null m

    -- an operand of which no type is wanted
    any_passes : (e : ExprTree) (made : List Ty) → Coding e → is_some (type_of e) ≡ true → HasMade z (operand z.numbers any_object e (lifted s e) made).made → Lifting e → Values (operand z.numbers any_object e (lifted s e) made) (type_of e) any_object
    any_passes e made f some m rec = operand_passes any_object e made f some (λ n. refl) m rec

    two_passes : (a b : ExprTree) (made : List Ty) → Coding a → Coding b → is_some (type_of a) ≡ true → is_some (type_of b) ≡ true → HasMade z (operand z.numbers any_object b (lifted s b) (operand z.numbers any_object a (lifted s a) made).made).made → Lifting a → Lifting b →
        Values (operand z.numbers any_object a (lifted s a) made) (type_of a) any_object × Values (operand z.numbers any_object b (lifted s b) (operand z.numbers any_object a (lifted s a) made).made) (type_of b) any_object
    two_passes a b made f g x y m one two =
        let v = operand z.numbers any_object a (lifted s a) made in
        let w = operand z.numbers any_object b (lifted s b) v.made in
        (any_passes a made f x (made_before z agrees v.made w.made (operand_begins z.numbers any_object b (lifted s b) (lifted_begins s b) v.made) m) one, any_passes b v.made g y m two)

    -- ---- lazy operations

    lazily_passes : (p : Place) (a b : ExprTree) (asked : core.ExprTree → core.ExprTree) → ((v : core.ExprTree) → IsIn v (Some ty.Bool) → IsIn (asked v) (Some ty.Bool)) → (first : Lifted) (second : List Ty → Lifted) → ((made : List Ty) → Begins made (second made).made) →
        HasMade z (lazily z.numbers p a b asked first second).made → (HasMade z first.made → Lifts first (Some ty.Bool)) → ((made : List Ty) → HasMade z (second made).made → Lifts (second made) (Some ty.Bool)) → Lifts (lazily z.numbers p a b asked first second) (Some ty.Bool)
    lazily_passes p a b asked tested first second grows m one two =
        let x = next z.numbers first.made in
        let ms = first.made ++ ty.Bool ∷ [] in
        let r = second ms in
        let before = made_before z agrees ms r.made (grows ms) m in
        let start = one (made_before z agrees first.made ms (begins_append first.made (ty.Bool ∷ [])) before) in
        let v = kept_in (place_of a) ty.Bool first (Some ty.Bool) start refl before in
        let more = two ms m in
        let at = made_last first.made ty.Bool before in
        let inside = each-append (passes z) r.code (put (place_of b) x r.source ∷ []) more.0 (put_passes (place_of b) x r.source (Some ty.Bool) more.1 (ap (fits_declared C (Some ty.Bool)) at.0)) in
        let condition = condition_is (asked (LocalExpr p x)) (Some ty.Bool) (tested (LocalExpr p x) (local_is z agrees p x ty.Bool at.0 at.1)) refl in
        let branch = IfStmt p (asked (LocalExpr p x)) (code_of (r.code ++ put (place_of b) x r.source ∷ [])) NoCode in
        let last : Passing z (branch ∷ []) = and_from _ _ (and_from _ _ (and_from _ _ (and_from _ _ condition refl) inside) refl) refl in
        (each-append (passes z) (in_temporary z.numbers (place_of a) ty.Bool first).code (branch ∷ []) v.0 last, local_is z agrees p x ty.Bool at.0 at.1)

    fails_is : (p : Place) (v : core.ExprTree) → IsIn v (Some ty.Bool) → IsIn (fails p v) (Some ty.Bool)
    fails_is p v h = (h.0, ap (λ u. types.where_typed (is_bool u) ty.Bool) h.1)

    not_is : (p : Place) (v : core.ExprTree) (t : Option Ty) → all_code z agrees v ≡ true → is_bool (type_in z agrees v) ≡ true → IsIn (NotExpr p v) (Some ty.Bool)
    not_is p v t h g = (h, rw g refl)

    bool_type : (t : Option Ty) → is_bool t ≡ true → t ≡ Some ty.Bool
    bool_type None h = absurd (false≢true h)
    bool_type (Some ty.Int) h = absurd (false≢true h)
    bool_type (Some ty.Bool) h = refl
    bool_type (Some ty.Null) h = absurd (false≢true h)
    bool_type (Some (ty.Ref t n)) h = absurd (false≢true h)

    negated_passes : (a : ExprTree) (made : List Ty) → Coding a → is_bool (type_of a) ≡ true → HasMade z (negated z.numbers a (lifted s a) made).made → Lifting a → Lifts (negated z.numbers a (lifted s a) made) (Some ty.Bool)
    negated_passes a made f t m rec = by (has_call a) refl m
      where
        by : (b : Bool) → has_call a ≡ b → HasMade z (if b then unary (NotExpr (place_of a)) (operand z.numbers ty.Bool a (lifted s a) made) else unlifted (NotExpr (place_of a) (plain z.numbers a)) made).made →
            Lifts (if b then unary (NotExpr (place_of a)) (operand z.numbers ty.Bool a (lifted s a) made) else unlifted (NotExpr (place_of a) (plain z.numbers a)) made) (Some ty.Bool)
        by true i m =
            let v = operand_passes ty.Bool a made f (some_bool (type_of a) t) (λ n. absurd (no_null_bool (type_of a) t n)) m rec in
            let e = holds_exactly (operand z.numbers ty.Bool a (lifted s a) made).value (type_of a) ty.Bool v.1 (no_null_bool (type_of a) t) in
            (v.0, not_is (place_of a) (operand z.numbers ty.Bool a (lifted s a) made).value (type_of a) e.0 (ap is_bool e.1 ∙ bare_bool (type_of a) ∙ t))
        by false i m =
            let e = plain_is z agrees a f.0 f.1 i in
            (refl, not_is (place_of a) (plain z.numbers a) (type_of a) e.0 (ap is_bool e.1 ∙ bare_bool (type_of a) ∙ t))

    bool_lifts : (e : ExprTree) (l : Lifted) → is_bool (type_of e) ≡ true → Lifts l (type_of e) → Lifts l (Some ty.Bool)
    bool_lifts e l t h = subst (Lifts l) (bool_type (type_of e) t) h

    pair_passes : (p : Place) (a b : ExprTree) (asked : core.ExprTree → core.ExprTree) → ((v : core.ExprTree) → IsIn v (Some ty.Bool) → IsIn (asked v) (Some ty.Bool)) → (made : List Ty) → Coding a → Coding b → (is_bool (type_of a) ≡ true) × (is_bool (type_of b) ≡ true) →
        HasMade z (lazily z.numbers p a b asked (lifted_of z.numbers a (lifted s a) made) (lifted_of z.numbers b (lifted s b))).made → Lifting a → Lifting b → Lifts (lazily z.numbers p a b asked (lifted_of z.numbers a (lifted s a) made) (lifted_of z.numbers b (lifted s b))) (Some ty.Bool)
    pair_passes p a b asked tested made f g t m one two =
        lazily_passes p a b asked tested (lifted_of z.numbers a (lifted s a) made) (lifted_of z.numbers b (lifted s b)) (lifted_of_begins z.numbers b (lifted s b) (lifted_begins s b)) m
        (λ n. bool_lifts a (lifted_of z.numbers a (lifted s a) made) t.0 (lifted_of_passes a made f n one))
        (λ ms n. bool_lifts b (lifted_of z.numbers b (lifted s b) ms) t.1 (lifted_of_passes b ms g n two))

    operation_passes : (p : Place) (o : Operator) (a b : ExprTree) (made : List Ty) → Coding a → Coding b → operation_type o (type_of a) (type_of b) ≡ Some (typed.operation_type o) → HasMade z (operation z.numbers p o a b (lifted s a) (lifted s b) made).made → Lifting a → Lifting b →
        Lifts (operation z.numbers p o a b (lifted s a) (lifted s b) made) (Some (typed.operation_type o))
    operation_passes p op.And a b made f g t m one two = pair_passes p a b holds (λ v h. h) made f g (and_parts (is_bool (type_of a)) (is_bool (type_of b)) (where_true _ _ _ t)) m one two
    operation_passes p op.Or a b made f g t m one two = pair_passes p a b (fails p) (fails_is p) made f g (and_parts (is_bool (type_of a)) (is_bool (type_of b)) (where_true _ _ _ t)) m one two
    operation_passes p o a b made f g t m one two =
        let some = operands_typed o (type_of a) (type_of b) (typed.operation_type o) t in
        let both = two_passes a b made f g some.0 some.1 m one two in
        let v = operand z.numbers any_object a (lifted s a) made in
        let w = operand z.numbers any_object b (lifted s b) v.made in
        (each-append (passes z) v.code w.code both.0.0 both.1.0, (and_from _ _ (holds_code v.value (type_of a) any_object both.0.1) (holds_code w.value (type_of b) any_object both.1.1), operation_like o (type_in z agrees v.value) (type_in z agrees w.value) (type_of a) (type_of b) (holds_like v.value (type_of a) both.0.1) (holds_like w.value (type_of b) both.1.1) ∙ t ∙ operation_plain o))

    implication_passes : (p : Place) (a b : ExprTree) (made : List Ty) → Coding a → Coding b → is_bool (type_of a) ≡ true → is_bool (type_of b) ≡ true → HasMade z (implication z.numbers p a b (lifted s a) (lifted s b) made).made → Lifting a → Lifting b →
        Lifts (implication z.numbers p a b (lifted s a) (lifted s b) made) (Some ty.Bool)
    implication_passes p a b made f g t u m one two =
        lazily_passes p a b (fails p) (fails_is p) (negated z.numbers a (lifted s a) made) (lifted_of z.numbers b (lifted s b)) (lifted_of_begins z.numbers b (lifted s b) (lifted_begins s b)) m
        (λ n. negated_passes a made f t n one)
        (λ ms n. bool_lifts b (lifted_of z.numbers b (lifted s b) ms) u (lifted_of_passes b ms g n two))

    -- ---- calls

    abbrev Arguing : Arguments → List Ty → Type 0
    Arguing es ts = FitArguments z.typed C z.context constructs z.first es ts

    plain_types : (es : Arguments) (ts : List Ty) → Arguing es ts → have_call es ≡ false → have_types_in C z.body (plain_arguments z.numbers es) ts ≡ true
    plain_types NoMore [] f n = refl
    plain_types NoMore (t ∷ ts) f n = absurd f.0
    plain_types (Argument e es) [] f n = absurd f.0
    plain_types (Argument e es) (t ∷ ts) f n =
        let calls = or_false (has_call e) (have_call es) n in
        let words = none_left (misplaced NoWord e) (misplaced_each NoWord es) f.1 in
        let out = and_parts (can_lift e) (can_lift_all es) f.2 in
        and_from _ _ (bare_has_type (plain z.numbers e) (type_of e) t (plain_is z agrees e f.0.0 words.0 calls.0) f.0.1) (plain_types es ts (f.0.2, words.1, out.1) calls.1)

    pub call_is : (o : Option core.BodyTree) (ts : List Ty) (r : Option Ty) (vs : List core.ExprTree) → Takes o ts r → have_types_in C z.body vs ts ≡ true → is_call_of C z.body None vs o ≡ true
    call_is o ts r vs k h = ap (is_call_of C z.body None vs) k.is ∙ and_from _ _ (ap (have_types_in C z.body vs) k.params ∙ h) refl

    result_is : (o : Option core.BodyTree) (ts : List Ty) (r : Option Ty) → Takes o ts r → (y : core.BodyTree) → o ≡ Some y → y.result ≡ r
    result_is o ts r k y e = ap (λ (b : core.BodyTree). b.result) (same_Some _ _ (sym e ∙ k.is)) ∙ k.result

    abbrev Listing : List Ty → Arguments → Type 0
    Listing ts es = (made : List Ty) → HasMade z (in_temporaries s ts es made).made → Lists (in_temporaries s ts es made) ts

    array_passes : (p : Place) (t : ℕ) (e : ExprTree) → Coding (NewArrayOf p t e) → Lifting e → Lifting (NewArrayOf p t e)
    array_passes p t e f rec made c m = by (has_call e || false) refl m
      where
        lift : List Ty → Listed
        lift k = and_operands (operand z.numbers any_object e (lifted s e) k) no_operands

        array_is : (v : core.ExprTree) → IsIn v (bare (type_of e)) → is_typed z.program z.body (NewArrayStmt p None t v) ≡ true
        array_is v i = and_from _ _ (and_from _ _ f.0.1 refl) (ap is_int (code_is z agrees v (bare (type_of e)) i) ∙ bare_int (type_of e) ∙ f.0.2)

        by : (b : Bool) → (has_call e || false) ≡ b → HasMade z (if b then lift made else record { code = []; values = plain z.numbers e ∷ []; made = made }).made →
            Lifts (called (λ vs. CreatedArray p t (only_of p vs)) (if b then lift made else record { code = []; values = plain z.numbers e ∷ []; made = made })) (Some (class_type t true))
        by true i m =
            let v = any_passes e made (f.0.0, f.1, f.2) (some_int (type_of e) f.0.2) m rec in
            let a = (operand z.numbers any_object e (lifted s e) made).value in
            (each-append (passes z) (operand z.numbers any_object e (lifted s e) made).code [] v.0 refl, (array_is a (holds_exactly a (type_of e) any_object v.1 (no_null_int (type_of e) f.0.2)), refl))
        by false i m = (refl, (array_is (plain z.numbers e) (plain_is z agrees e f.0.0 f.1 (or_false (has_call e) false i).0), refl))

    dispatched_passes : (p : Place) (e : ExprTree) (m : ℕ) (t : Option Ty) (es : Arguments) → Coding (CallOf p e m t es) → Lifting e → Listing (types_of_method s (static_class e) m) es → Lifting (CallOf p e m t es)
    dispatched_passes p e m t es f rec temps made c n = by (has_call e || have_call es) refl n
      where
        ts : List Ty
        ts = types_of_method s (static_class e) m

        words : (misplaced NoWord e ≡ []) × (misplaced_each NoWord es ≡ [])
        words = none_left (misplaced NoWord e) (misplaced_each NoWord es) f.1

        out : (can_lift e ≡ true) × (can_lift_all es ≡ true)
        out = and_parts (can_lift e) (can_lift_all es) f.2

        lift : List Ty → Listed
        lift k = and_operands (operand z.numbers any_object e (lifted s e) k) (in_temporaries s (types_of_method s (static_class e) m) es)

        call_typed : (v : core.ExprTree) (vs : List core.ExprTree) → IsIn v (bare (type_of e)) → have_types_in C z.body vs (types_of_method s (static_class e) m) ≡ true → Gives (Called p (Dispatched v (static_class e) m) vs) t
        call_typed v vs i h =
            let k = agrees.calls.method (static_class e) m t f.0.2 in
            let o = callee_of z.program z.body (Dispatched v (static_class e) m) in
            let receiver : is_receiver C z.body (Dispatched v (static_class e) m) ≡ true = ap (has_class (λ c. c == static_class e)) (code_is z agrees v (bare (type_of e)) i) ∙ bare_class (λ c. c == static_class e) (type_of e) ∙ same_class (is_declared C) (type_of e) f.0.1 in
            (and_from _ _ receiver (call_is o (types_of_method s (static_class e) m) t vs k h), result_is o (types_of_method s (static_class e) m) t k, k.no_null)

        by : (b : Bool) → (has_call e || have_call es) ≡ b → HasMade z (if b then lift made else record { code = []; values = plain z.numbers e ∷ plain_arguments z.numbers es; made = made }).made →
            Lifts (called (dispatched p (static_class e) m) (if b then lift made else record { code = []; values = plain z.numbers e ∷ plain_arguments z.numbers es; made = made })) t
        by true i n =
            let v = operand z.numbers any_object e (lifted s e) made in
            let l = in_temporaries s (types_of_method s (static_class e) m) es v.made in
            let one = any_passes e made (f.0.0, words.0, out.0) (some_class (is_declared C) (type_of e) f.0.1) (made_before z agrees v.made l.made (in_temporaries_begin s (types_of_method s (static_class e) m) es v.made) n) rec in
            let two = temps v.made n in
            (each-append (passes z) v.code l.code one.0 two.0, call_typed v.value l.values (holds_exactly v.value (type_of e) any_object one.1 (no_null_class (is_declared C) (type_of e) f.0.1)) two.1)
        by false i n =
            let calls = or_false (has_call e) (have_call es) i in
            (refl, call_typed (plain z.numbers e) (plain_arguments z.numbers es) (plain_is z agrees e f.0.0 words.0 calls.0) (plain_types es (types_of_method s (static_class e) m) (f.0.3, words.1, out.1) calls.1))

    operands_pass : (es : Arguments) (ts : List Ty) (made : List Ty) → Arguing es ts → Listing ts es → HasMade z (operands_of z.numbers es (in_temporaries s ts es) made).made → Lists (operands_of z.numbers es (in_temporaries s ts es) made) ts
    operands_pass es ts made f temps m = by (have_call es) refl m
      where
        by : (b : Bool) → have_call es ≡ b → HasMade z (if b then in_temporaries s ts es made else record { code = []; values = plain_arguments z.numbers es; made = made }).made →
            Lists (if b then in_temporaries s ts es made else record { code = []; values = plain_arguments z.numbers es; made = made }) ts
        by true i m = temps made m
        by false i m = (refl, plain_types es ts f i)

    mutual
      lifted_passes : (e : ExprTree) → Coding e → Lifting e
      lifted_passes (IffOf p a b) f made c m =
          let words = none_left (misplaced NoWord a) (misplaced NoWord b) f.1 in
          let out = and_parts (can_lift a) (can_lift b) f.2 in
          let one : Coding a = (f.0.0, words.0, out.0) in
          let two : Coding b = (f.0.1, words.1, out.1) in
          let both = two_passes a b made one two (some_bool (type_of a) f.0.2) (some_bool (type_of b) f.0.3) m (lifted_passes a one) (lifted_passes b two) in
          let v = operand z.numbers any_object a (lifted s a) made in
          let w = operand z.numbers any_object b (lifted s b) v.made in
          let left : is_bool (type_in z agrees v.value) ≡ true = (holds_like v.value (type_of a) both.0.1).bool ∙ f.0.2 in
          let right : is_bool (type_in z agrees w.value) ≡ true = (holds_like w.value (type_of b) both.1.1).bool ∙ f.0.3 in
          (each-append (passes z) v.code w.code both.0.0 both.1.0, (and_from _ _ (holds_code v.value (type_of a) any_object both.0.1) (holds_code w.value (type_of b) any_object both.1.1), rw (left, right) refl))
      lifted_passes (ImpliesOf p a b) f made c m =
          let words = none_left (misplaced NoWord a) (misplaced NoWord b) f.1 in
          let out = and_parts (can_lift a) (can_lift b) f.2 in
          let one : Coding a = (f.0.0, words.0, out.0) in
          let two : Coding b = (f.0.1, words.1, out.1) in
          implication_passes p a b made one two f.0.2 f.0.3 m (lifted_passes a one) (lifted_passes b two)
      lifted_passes (BinaryOf p o a b) f made c m =
          let words = none_left (misplaced NoWord a) (misplaced NoWord b) f.1 in
          let out = and_parts (can_lift a) (can_lift b) f.2 in
          let one : Coding a = (f.0.0, words.0, out.0) in
          let two : Coding b = (f.0.1, words.1, out.1) in
          operation_passes p o a b made one two f.0.2 m (lifted_passes a one) (lifted_passes b two)
      lifted_passes (IsOf p e t) f made c m =
          let v = any_passes e made (f.0.0, f.1, f.2) (some_reference (type_of e) f.0.1) m (lifted_passes e (f.0.0, f.1, f.2)) in
          let a = (operand z.numbers any_object e (lifted s e) made).value in
          let r : is_reference (type_in z agrees a) ≡ true = (holds_like a (type_of e) v.1).reference ∙ f.0.1 in
          (v.0, (holds_code a (type_of e) any_object v.1, rw (r, f.0.2) refl))
      lifted_passes (AsOf p e t) f made c m =
          let v = any_passes e made (f.0.0, f.1, f.2) (some_reference (type_of e) f.0.1) m (lifted_passes e (f.0.0, f.1, f.2)) in
          let a = (operand z.numbers any_object e (lifted s e) made).value in
          let r : is_reference (type_in z agrees a) ≡ true = (holds_like a (type_of e) v.1).reference ∙ f.0.1 in
          (v.0, (holds_code a (type_of e) any_object v.1, rw (r, f.0.2) refl))
      lifted_passes (CastOf p t non_null e) f made c m =
          let v = any_passes e made (f.0.0, f.1, f.2) (some_reference (type_of e) f.0.1) m (lifted_passes e (f.0.0, f.1, f.2)) in
          let a = (operand z.numbers any_object e (lifted s e) made).value in
          let r : is_reference (type_in z agrees a) ≡ true = (holds_like a (type_of e) v.1).reference ∙ f.0.1 in
          (v.0, (holds_code a (type_of e) any_object v.1, rw (r, f.0.2) refl))
      lifted_passes (NegateOf p e) f made c m =
          let v = any_passes e made (f.0.0, f.1, f.2) (some_int (type_of e) f.0.1) m (lifted_passes e (f.0.0, f.1, f.2)) in
          let a = (operand z.numbers any_object e (lifted s e) made).value in
          let r : is_int (type_in z agrees a) ≡ true = (holds_like a (type_of e) v.1).int ∙ f.0.1 in
          (v.0, (holds_code a (type_of e) any_object v.1, rw r refl))
      lifted_passes (NotOf p e) f made c m =
          let v = any_passes e made (f.0.0, f.1, f.2) (some_bool (type_of e) f.0.1) m (lifted_passes e (f.0.0, f.1, f.2)) in
          let a = (operand z.numbers any_object e (lifted s e) made).value in
          let r : is_bool (type_in z agrees a) ≡ true = (holds_like a (type_of e) v.1).bool ∙ f.0.1 in
          (v.0, (holds_code a (type_of e) any_object v.1, rw r refl))
      lifted_passes (FieldOf p e g t) f made c m =
          let r = f.0.1 in
          let test = λ (c : ℕ). below C c r.field.class in
          let v = any_passes e made (f.0.0, f.1, f.2) (some_class test (type_of e) r.has) m (lifted_passes e (f.0.0, f.1, f.2)) in
          let a = (operand z.numbers any_object e (lifted s e) made).value in
          let i = holds_exactly a (type_of e) any_object v.1 (no_null_class test (type_of e) r.has) in
          let has : has_class test (type_in z agrees a) ≡ true = ap (has_class test) i.1 ∙ bare_class test (type_of e) ∙ r.has in
          (v.0, (i.0, ap (types.field_read_type C (type_in z agrees a)) r.there ∙ (rw has refl) ∙ ap (λ u. Some (nullable u)) r.type))
      lifted_passes (ElementOf p a b) f made c m =
          let words = none_left (misplaced NoWord a) (misplaced NoWord b) f.1 in
          let out = and_parts (can_lift a) (can_lift b) f.2 in
          let one : Coding a = (f.0.0, words.0, out.0) in
          let two : Coding b = (f.0.1, words.1, out.1) in
          let both = two_passes a b made one two (some_class (is_array C) (type_of a) f.0.2) (some_int (type_of b) f.0.3) m (lifted_passes a one) (lifted_passes b two) in
          let v = operand z.numbers any_object a (lifted s a) made in
          let w = operand z.numbers any_object b (lifted s b) v.made in
          let i = holds_exactly v.value (type_of a) any_object both.0.1 (no_null_class (is_array C) (type_of a) f.0.2) in
          let right : is_int (type_in z agrees w.value) ≡ true = (holds_like w.value (type_of b) both.1.1).int ∙ f.0.3 in
          (each-append (passes z) v.code w.code both.0.0 both.1.0, (and_from _ _ i.0 (holds_code w.value (type_of b) any_object both.1.1), ap (λ x. if x then element_of C (type_in z agrees v.value) else None) right ∙ ap (element_of C) i.1 ∙ element_is C (type_of a) f.0.2))
      lifted_passes (LengthOf p e) f made c m =
          let v = any_passes e made (f.0.0, f.1, f.2) (some_class (is_array C) (type_of e) f.0.1) m (lifted_passes e (f.0.0, f.1, f.2)) in
          let a = (operand z.numbers any_object e (lifted s e) made).value in
          let i = holds_exactly a (type_of e) any_object v.1 (no_null_class (is_array C) (type_of e) f.0.1) in
          let has : has_class (is_array C) (type_in z agrees a) ≡ true = ap (has_class (is_array C)) i.1 ∙ bare_class (is_array C) (type_of e) ∙ f.0.1 in
          (v.0, (i.0, rw has refl))
      lifted_passes (NewOf p t es) f made c m =
          let ts = types_of_constructor s t in
          let l = operands_pass es ts made (f.0.1, f.1, f.2) (λ k n. temporaries_pass ts es k (f.0.1, f.1, f.2) n) m in
          let k = agrees.calls.constructor t f.0.0 in
          let vs = (operands_of z.numbers es (in_temporaries s ts es) made).values in
          (l.0, (and_from _ _ (and_from _ _ f.0.0 refl) (call_is (constructor_of z.program t) ts None vs k l.1), refl))
      lifted_passes (NewArrayOf p t e) f made c m = array_passes p t e f (lifted_passes e (f.0.0, f.1, f.2)) made c m
      lifted_passes (CallOf p e m t es) f made c n =
          let words = none_left (misplaced NoWord e) (misplaced_each NoWord es) f.1 in
          let out = and_parts (can_lift e) (can_lift_all es) f.2 in
          let ts = types_of_method s (static_class e) m in
          dispatched_passes p e m t es f (lifted_passes e (f.0.0, words.0, out.0)) (λ k i. temporaries_pass ts es k (f.0.3, words.1, out.1) i) made c n
      lifted_passes (StaticOf p n t es) f made c m =
          let ts = types_of_written s n in
          let l = operands_pass es ts made (f.0.1, f.1, f.2) (λ k n. temporaries_pass ts es k (f.0.1, f.1, f.2) n) m in
          let k = agrees.calls.static n t f.0.0 in
          let callee = core.Static (number_of_written z.typed n) in
          let vs = (operands_of z.numbers es (in_temporaries s ts es) made).values in
          (l.0, (call_is (callee_of z.program z.body callee) ts t vs k l.1, result_is (callee_of z.program z.body callee) ts t k, k.no_null))
      lifted_passes (BaseOf p m t es) f made c n =
          let ts = types_of_method s (above_of z.typed z.written.class) m in
          let up = λ (x : ℕ). above_of z.typed x in
          let fits = subst (λ (x : ℕ). Fits z.typed C z.context 0 es (types_of_method s (above_of z.typed x) m)) agrees.class f.0.2 in
          let l = operands_pass es ts made (fits, f.1, f.2) (λ k n. temporaries_pass ts es k (fits, f.1, f.2) n) n in
          let k = agrees.calls.base m t f.0.0 (subst (λ (x : ℕ). IsCallee (method_at z.typed (above_of z.typed x) m) false t) agrees.class f.0.1) in
          let callee = core.Base (base_number s m) in
          let vs = (operands_of z.numbers es (in_temporaries s ts es) made).values in
          (l.0, (call_is (callee_of z.program z.body callee) ts t vs k l.1, result_is (callee_of z.program z.body callee) ts t k, k.no_null))
      lifted_passes (IntOf p n) f made c m = absurd (false≢true c)
      lifted_passes (BoolOf p v) f made c m = absurd (false≢true c)
      lifted_passes (NullOf p) f made c m = absurd (false≢true c)
      lifted_passes (ThisOf p t) f made c m = absurd (false≢true c)
      lifted_passes (LocalOf p x t) f made c m = absurd (false≢true c)
      lifted_passes (ResultOf p t) f made c m = absurd (false≢true c)
      lifted_passes (BoundOf p n) f made c m = absurd (false≢true c)
      lifted_passes (OldOf p e) f made c m = no_word p (misplaced NoWord e) f.1
      lifted_passes (QuantifiedOf p q name low high e) f made c m = absurd (false≢true (sym (ap not c) ∙ f.2))
      lifted_passes (StateOf p w e) f made c m = no_state p w e f.1
      lifted_passes (OwnersOf p w a b) f made c m = no_word p _ (none_left (p ∷ misplaced NoWord a) (misplaced NoWord b) f.1).0

      temporaries_pass : (ts : List Ty) (es : Arguments) (made : List Ty) → Arguing es ts → HasMade z (in_temporaries s ts es made).made → Lists (in_temporaries s ts es made) ts
      temporaries_pass [] NoMore made f m = (refl, refl)
      temporaries_pass (t ∷ ts) NoMore made f m = absurd f.0
      temporaries_pass [] (Argument e es) made f m = absurd f.0
      temporaries_pass (t ∷ ts) (Argument e es) made f m =
          let words = none_left (misplaced NoWord e) (misplaced_each NoWord es) f.1 in
          let out = and_parts (can_lift e) (can_lift_all es) f.2 in
          let v = operand z.numbers t e (lifted s e) made in
          let l = in_temporaries s ts es v.made in
          let one = operand_passes t e made (f.0.0, words.0, out.0) (some_fitting C (type_of e) t f.0.1) (λ n. sym (ap (λ o. has_fitting C o t) n) ∙ f.0.1) (made_before z agrees v.made l.made (in_temporaries_begin s ts es v.made) m) (lifted_passes e (f.0.0, words.0, out.0)) in
          let two = temporaries_pass ts es v.made (f.0.2, words.1, out.1) m in
          (each-append (passes z) v.code l.code one.0 two.0, and_from _ _ (holds_type v.value (type_of e) t one.1 f.0.1) two.1)

    -- ---- any expression

    pub right_passes : (e : ExprTree) (made : List Ty) → Coding e → HasMade z (right_side s e made).made → Lifts (right_side s e made) (type_of e)
    right_passes e made f m = lifted_of_passes e made f m (lifted_passes e f)

    pub value_passes : (e : ExprTree) (made : List Ty) → Coding e → is_some (type_of e) ≡ true → HasMade z (value s e made).made → Passing z (value s e made).code × IsIn (value s e made).value (bare (type_of e))
    value_passes e made f some m =
        let l = right_side s e made in
        valued_passes e l (right_passes e made f (made_before z agrees l.made (value s e made).made (valued_from_begins z.numbers e l l.source) m)) some m

    pub arguments_pass : (es : Arguments) (ts : List Ty) (made : List Ty) → Arguing es ts → HasMade z (arguments_of s ts es made).made → Lists (arguments_of s ts es made) ts
    arguments_pass es ts made f m = operands_pass es ts made f (λ k n. temporaries_pass ts es k f n) m
