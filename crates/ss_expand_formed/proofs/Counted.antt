-- Which temporaries the code of a body makes doesn't depend on the numbers of its result and of its bound names.
use Rattle.std.proofs.Common.{◌≡◌, ℕ, ◌+◌, List, [], ◌∷◌, ◌++◌, length, Bool, true, false, Option, Some, None, refl, sym, ◌∙◌, ap}
use Rattle.std.specs.Prelude.{◌&&◌, ◌||◌, ◌==◌, if◌then◌else◌, pos}
use Rattle.ss_core.specs.declared.names.Place.{Place}
use Rattle.ss_core.specs.declared.names.Ty.{Ty}
use Rattle.ss_core.specs.declared.names.Ty.TheVariants as ty
use Rattle.ss_core.specs.declared.expr.Operator.{Operator}
use Rattle.ss_core.specs.declared.expr.Operator.TheVariants as op
use Rattle.ss_core.specs.Tree as core
use Rattle.ss_core.specs.Tree.{NotExpr, BinaryExpr, IffExpr}
use Rattle.ss_ast.specs.declared.stmt.AssignOperator.{AssignOperator}
use Rattle.ss_ast.specs.declared.stmt.AssignOperator.TheVariants as operator
use Rattle.ss_typed.specs.Tree.{ExprTree, IntOf, LocalOf, IffOf, ImpliesOf, BinaryOf, IsOf, AsOf, NegateOf, NotOf, CastOf, FieldOf, ElementOf, LengthOf, NewOf, NewArrayOf, CallOf, StaticOf, BaseOf, Arguments, NoMore, Argument, DeclaratorTree, SimpleTree, AssignOf, StepOf, AloneOf, PrintOf, PrintTextOf, BaseCallOf, InitTree, DeclareFirst, SimpleFirst, BlockTree, BlockOf, StmtTree, InBlock, DeclareOf, SimpleOf, IfOf, IfElseOf, WhileOf, ForOf, ReturnOf, AssertOf, AssumeOf, ExposeOf, EmptyOf, StmtTrees, Before, BodyTree, TypedTree}
use Rattle.ss_typed.specs.Tree as typed
use Rattle.ss_typed.specs.Types.{type_of}
use Rattle.ss_expand_rules.specs.Numbers.{Numbers, plain, plain_arguments}
use Rattle.ss_expand_rules.specs.Calls.{has_call, have_call, is_lazy}
use Rattle.ss_typed.specs.Shapes.{is_this, place_of}
use Rattle.ss_expand_rules.specs.Program.{above_of}
use Rattle.ss_typed.specs.Lookups.{constructor_of, param_types_in}
use Rattle.ss_expand_rules.specs.Code.{Coded, nothing, then_code}
use Rattle.ss_expand_rules.specs.Lifting.{Opened, ElaborationContext, Source, Pure, Created, CreatedArray, Called, Lifted, Valued, Listed, unlifted, temporary_type, any_object, in_temporary, valued_from, valued, lifted_of, operand, unary, binary, lazily, holds, fails, negated, operation, implication, first_type, other_types, no_operands, operands_of, and_operands, dispatched, static_class, types_of_constructor, types_of_written, types_of_method, lifted, in_temporaries, right_side, value, arguments_of}
use Rattle.ss_expand_rules.specs.Simple.{assign_settled, Settled, settle_lifted, settle_part, settle, assign_after, assign, update, assignment, step_operator, declared_as, declare, print, ready_after, base_with, base_of, simple}
use Rattle.ss_expand_rules.specs.Ends.{can_end, block_can_end}
use Rattle.ss_expand_rules.specs.Statements.{loop_while, begin, advance, leave_value, leave, result_type, exposed_class, within, close, opened, expose_lifted, stmt, block, stmts}

both_either : {X : Type 0} (R : X → X → Type 0) (b : Bool) (x y u v : X) → R x y → R u v → R (if b then x else u) (if b then y else v)
both_either R true x y u v h g = h
both_either R false x y u v h g = g

abbrev is_pure : Source → Bool
is_pure (Pure e) = true
is_pure v = false

-- the same temporaries, and an expression on both sides or on none
abbrev Alike : Lifted → Lifted → Type 0
Alike l r = (l.made ≡ r.made) × (is_pure l.source ≡ is_pure r.source)

abbrev LiftAlike : (List Ty → Lifted) → (List Ty → Lifted) → Type 0
LiftAlike f g = (made : List Ty) → Alike (f made) (g made)

abbrev ValueAlike : (List Ty → Valued) → (List Ty → Valued) → Type 0
ValueAlike f g = (made : List Ty) → (f made).made ≡ (g made).made

abbrev ListAlike : (List Ty → Listed) → (List Ty → Listed) → Type 0
ListAlike f g = (made : List Ty) → (f made).made ≡ (g made).made

abbrev CodeAlike : (List Ty → Coded) → (List Ty → Coded) → Type 0
CodeAlike f g = (made : List Ty) → (f made).made ≡ (g made).made

abbrev SameSettled : Settled → Settled → Type 0
SameSettled x y = (x.made ≡ y.made) × (x.target ≡ y.target)

pub closed_made : (o : Opened) (ends : Bool) (inside : Coded) → (close o ends inside).made ≡ inside.made
closed_made o true inside = refl
closed_made o false inside = refl

dispatched_calls : (p : Place) (t m : ℕ) (vs : List core.ExprTree) → is_pure (dispatched p t m vs) ≡ false
dispatched_calls p t m [] = refl
dispatched_calls p t m (v ∷ vs) = refl

module _ (p : TypedTree) (b : BodyTree) (meant : List ℕ) (first outcome other_outcome bound other_bound : ℕ) where
  abbrev ns : Numbers
  ns = record { meant = meant; first_temporary = first; outcome = outcome; first_bound = bound }

  abbrev ms : Numbers
  ms = record { meant = meant; first_temporary = first; outcome = other_outcome; first_bound = other_bound }

  abbrev pub one : List Opened → ElaborationContext
  one os = record { program = p; body = b; numbers = ns; exposes = os }

  abbrev pub two : List Opened → ElaborationContext
  two os = record { program = p; body = b; numbers = ms; exposes = os }

  -- ---- values

  valued_from_made : (n : Numbers) (e : ExprTree) (l : Lifted) (v : Source) → (valued_from n e l v).made ≡ (if is_pure v then l.made else l.made ++ temporary_type any_object (type_of e) ∷ [])
  valued_from_made n e l (Pure x) = refl
  valued_from_made n e l (Created q t es) = refl
  valued_from_made n e l (CreatedArray q t x) = refl
  valued_from_made n e l (Called q callee es) = refl

  valued_same : (e : ExprTree) (l r : Lifted) → Alike l r → (valued ns e l).made ≡ (valued ms e r).made
  valued_same e l r h =
      let t = temporary_type any_object (type_of e) in
      valued_from_made ns e l l.source
      ∙ ap (λ c. if c then l.made else l.made ++ t ∷ []) h.1
      ∙ ap (λ m. if is_pure r.source then m else m ++ t ∷ []) h.0
      ∙ sym (valued_from_made ms e r r.source)

  lifted_of_same : (e : ExprTree) (f g : List Ty → Lifted) → LiftAlike f g → LiftAlike (lifted_of ns e f) (lifted_of ms e g)
  lifted_of_same e f g h made = both_either Alike (has_call e) (f made) (g made) (unlifted (plain ns e) made) (unlifted (plain ms e) made) (h made) (refl, refl)

  operand_same : (t : Ty) (e : ExprTree) (f g : List Ty → Lifted) → LiftAlike f g → ValueAlike (operand ns t e f) (operand ms t e g)
  operand_same t e f g h made =
      let kind = temporary_type t (type_of e) in
      both_either (λ (x y : Valued). x.made ≡ y.made) (is_lazy e && has_call e) (valued ns e (f made)) (valued ms e (g made)) (in_temporary ns (place_of e) kind (lifted_of ns e f made)) (in_temporary ms (place_of e) kind (lifted_of ms e g made))
      (valued_same e (f made) (g made) (h made))
      (ap (λ m. m ++ kind ∷ []) (lifted_of_same e f g h made).0)

  then_same : (a c : List Ty) (f g : List Ty → Valued) → a ≡ c → ValueAlike f g → (f a).made ≡ (g c).made
  then_same a c f g h i = ap (λ m. (f m).made) h ∙ i c

  lists_then : (a c : List Ty) (f g : List Ty → Listed) → a ≡ c → ListAlike f g → (f a).made ≡ (g c).made
  lists_then a c f g h i = ap (λ m. (f m).made) h ∙ i c

  code_then : (a c : List Ty) (f g : List Ty → Coded) → a ≡ c → CodeAlike f g → (f a).made ≡ (g c).made
  code_then a c f g h i = ap (λ m. (f m).made) h ∙ i c

  binary_same : (f f' : core.ExprTree → core.ExprTree → core.ExprTree) (a c : Valued) (g i : List Ty → Valued) → a.made ≡ c.made → ValueAlike g i → Alike (binary f a g) (binary f' c i)
  binary_same f f' a c g i h j = (then_same a.made c.made g i h j, refl)

  -- ---- lazy operations

  lazily_same : (q : Place) (x y : ExprTree) (test : core.ExprTree → core.ExprTree) (l r : Lifted) (f g : List Ty → Lifted) → l.made ≡ r.made → LiftAlike f g → Alike (lazily ns q x y test l f) (lazily ms q x y test r g)
  lazily_same q x y test l r f g h i = (ap (λ m. (f (m ++ ty.Bool ∷ [])).made) h ∙ (i (r.made ++ ty.Bool ∷ [])).0, refl)

  negated_same : (e : ExprTree) (f g : List Ty → Lifted) → LiftAlike f g → LiftAlike (negated ns e f) (negated ms e g)
  negated_same e f g h made =
      both_either Alike (has_call e) (unary (NotExpr (place_of e)) (operand ns ty.Bool e f made)) (unary (NotExpr (place_of e)) (operand ms ty.Bool e g made)) (unlifted (NotExpr (place_of e) (plain ns e)) made) (unlifted (NotExpr (place_of e) (plain ms e)) made)
      (operand_same ty.Bool e f g h made, refl) (refl, refl)

  operation_same : (q : Place) (o : Operator) (x y : ExprTree) (f f' g g' : List Ty → Lifted) → LiftAlike f f' → LiftAlike g g' → LiftAlike (operation ns q o x y f g) (operation ms q o x y f' g')
  operation_same q op.And x y f f' g g' h i made = lazily_same q x y holds (lifted_of ns x f made) (lifted_of ms x f' made) (lifted_of ns y g) (lifted_of ms y g') (lifted_of_same x f f' h made).0 (lifted_of_same y g g' i)
  operation_same q op.Or x y f f' g g' h i made = lazily_same q x y (fails q) (lifted_of ns x f made) (lifted_of ms x f' made) (lifted_of ns y g) (lifted_of ms y g') (lifted_of_same x f f' h made).0 (lifted_of_same y g g' i)
  operation_same q o x y f f' g g' h i made =
      binary_same (BinaryExpr q o) (BinaryExpr q o) (operand ns any_object x f made) (operand ms any_object x f' made) (operand ns any_object y g) (operand ms any_object y g') (operand_same any_object x f f' h made) (operand_same any_object y g g' i)

  implication_same : (q : Place) (x y : ExprTree) (f f' g g' : List Ty → Lifted) → LiftAlike f f' → LiftAlike g g' → LiftAlike (implication ns q x y f g) (implication ms q x y f' g')
  implication_same q x y f f' g g' h i made = lazily_same q x y (fails q) (negated ns x f made) (negated ms x f' made) (lifted_of ns y g) (lifted_of ms y g') (negated_same x f f' h made).0 (lifted_of_same y g g' i)

  -- ---- calls

  operands_same : (es : Arguments) (f g : List Ty → Listed) → ListAlike f g → ListAlike (operands_of ns es f) (operands_of ms es g)
  operands_same es f g h made =
      both_either (λ (x y : Listed). x.made ≡ y.made) (have_call es) (f made) (g made) (record { code = []; values = plain_arguments ns es; made = made }) (record { code = []; values = plain_arguments ms es; made = made }) (h made) refl

  and_operands_same : (v w : Valued) (f g : List Ty → Listed) → v.made ≡ w.made → ListAlike f g → (and_operands v f).made ≡ (and_operands w g).made
  and_operands_same v w f g h i = lists_then v.made w.made f g h i

  module _ (os : List Opened) where
    mutual
      lifted_same : (e : ExprTree) → LiftAlike (lifted (one os) e) (lifted (two os) e)
      lifted_same (IffOf q x y) made = binary_same (IffExpr q) (IffExpr q) (operand ns any_object x (lifted (one os) x) made) (operand ms any_object x (lifted (two os) x) made) (operand ns any_object y (lifted (one os) y)) (operand ms any_object y (lifted (two os) y)) (operand_same any_object x (lifted (one os) x) (lifted (two os) x) (lifted_same x) made) (operand_same any_object y (lifted (one os) y) (lifted (two os) y) (lifted_same y))
      lifted_same (ImpliesOf q x y) made = implication_same q x y (lifted (one os) x) (lifted (two os) x) (lifted (one os) y) (lifted (two os) y) (lifted_same x) (lifted_same y) made
      lifted_same (BinaryOf q o x y) made = operation_same q o x y (lifted (one os) x) (lifted (two os) x) (lifted (one os) y) (lifted (two os) y) (lifted_same x) (lifted_same y) made
      lifted_same (IsOf q e t) made = (operand_same any_object e (lifted (one os) e) (lifted (two os) e) (lifted_same e) made, refl)
      lifted_same (AsOf q e t) made = (operand_same any_object e (lifted (one os) e) (lifted (two os) e) (lifted_same e) made, refl)
      lifted_same (NegateOf q e) made = (operand_same any_object e (lifted (one os) e) (lifted (two os) e) (lifted_same e) made, refl)
      lifted_same (NotOf q e) made = (operand_same any_object e (lifted (one os) e) (lifted (two os) e) (lifted_same e) made, refl)
      lifted_same (CastOf q t non_null e) made = (operand_same any_object e (lifted (one os) e) (lifted (two os) e) (lifted_same e) made, refl)
      lifted_same (FieldOf q e f t) made = (operand_same any_object e (lifted (one os) e) (lifted (two os) e) (lifted_same e) made, refl)
      lifted_same (ElementOf q x y) made = binary_same (core.ElementExpr q) (core.ElementExpr q) (operand ns any_object x (lifted (one os) x) made) (operand ms any_object x (lifted (two os) x) made) (operand ns any_object y (lifted (one os) y)) (operand ms any_object y (lifted (two os) y)) (operand_same any_object x (lifted (one os) x) (lifted (two os) x) (lifted_same x) made) (operand_same any_object y (lifted (one os) y) (lifted (two os) y) (lifted_same y))
      lifted_same (LengthOf q e) made = (operand_same any_object e (lifted (one os) e) (lifted (two os) e) (lifted_same e) made, refl)
      lifted_same (NewOf q t es) made = (operands_same es (in_temporaries (one os) (types_of_constructor (one os) t) es) (in_temporaries (two os) (types_of_constructor (one os) t) es) (in_temporaries_same (types_of_constructor (one os) t) es) made, refl)
      lifted_same (NewArrayOf q t e) made = (
        operands_same (Argument e NoMore) (λ m. and_operands (operand ns any_object e (lifted (one os) e) m) no_operands) (λ m. and_operands (operand ms any_object e (lifted (two os) e) m) no_operands)
            (λ m. operand_same any_object e (lifted (one os) e) (lifted (two os) e) (lifted_same e) m) made,
        refl,
      )
      lifted_same (CallOf q e m t es) made =
          let ts = types_of_method (one os) (static_class e) m in
          let f = λ (k : List Ty). and_operands (operand ns any_object e (lifted (one os) e) k) (in_temporaries (one os) ts es) in
          let g = λ (k : List Ty). and_operands (operand ms any_object e (lifted (two os) e) k) (in_temporaries (two os) ts es) in (
            operands_same (Argument e es) f g
                (λ k. and_operands_same (operand ns any_object e (lifted (one os) e) k) (operand ms any_object e (lifted (two os) e) k) (in_temporaries (one os) ts es) (in_temporaries (two os) ts es) (operand_same any_object e (lifted (one os) e) (lifted (two os) e) (lifted_same e) k) (in_temporaries_same ts es)) made,
            dispatched_calls q (static_class e) m (operands_of ns (Argument e es) f made).values ∙ sym (dispatched_calls q (static_class e) m (operands_of ms (Argument e es) g made).values),
          )
      lifted_same (StaticOf q n t es) made = (operands_same es (in_temporaries (one os) (types_of_written (one os) n) es) (in_temporaries (two os) (types_of_written (one os) n) es) (in_temporaries_same (types_of_written (one os) n) es) made, refl)
      lifted_same (BaseOf q m t es) made =
          let ts = types_of_method (one os) (above_of p b.class) m in
          (operands_same es (in_temporaries (one os) ts es) (in_temporaries (two os) ts es) (in_temporaries_same ts es) made, refl)
      lifted_same e made = (refl, refl)

      in_temporaries_same : (ts : List Ty) (es : Arguments) → ListAlike (in_temporaries (one os) ts es) (in_temporaries (two os) ts es)
      in_temporaries_same ts NoMore made = refl
      in_temporaries_same ts (Argument e es) made =
          and_operands_same (operand ns (first_type ts) e (lifted (one os) e) made) (operand ms (first_type ts) e (lifted (two os) e) made) (in_temporaries (one os) (other_types ts) es) (in_temporaries (two os) (other_types ts) es)
          (operand_same (first_type ts) e (lifted (one os) e) (lifted (two os) e) (lifted_same e) made) (in_temporaries_same (other_types ts) es)

    right_same : (e : ExprTree) → LiftAlike (right_side (one os) e) (right_side (two os) e)
    right_same e = lifted_of_same e (lifted (one os) e) (lifted (two os) e) (lifted_same e)

    value_same : (e : ExprTree) → ValueAlike (value (one os) e) (value (two os) e)
    value_same e made = valued_same e (right_side (one os) e made) (right_side (two os) e made) (right_same e made)

    -- ---- assignments

    assign_settled_same : (target e : ExprTree) → CodeAlike (assign_settled (one os) target e) (assign_settled (two os) target e)
    assign_settled_same (LocalOf q x t) e made = (right_same e made).0
    assign_settled_same target e made = value_same e made

    settle_part_same : (e : ExprTree) (made : List Ty) → SameSettled (settle_part (one os) e made) (settle_part (two os) e made)
    settle_part_same e made =
        let t = temporary_type any_object (type_of e) in
        let l = right_side (one os) e made in
        let r = right_side (two os) e made in
        both_either SameSettled (is_this e) (record { code = []; target = e; made = made }) (record { code = []; target = e; made = made }) (settle_lifted (one os) e l) (settle_lifted (two os) e r)
        (refl, refl)
        (ap (λ m. m ++ t ∷ []) (right_same e made).0, ap (λ m. LocalOf (place_of e) (first + length m) t) (right_same e made).0)

    settle_same : (target : ExprTree) (made : List Ty) → SameSettled (settle (one os) target made) (settle (two os) target made)
    settle_same (FieldOf q o f t) made = let h = settle_part_same o made in (h.0, ap (λ x. FieldOf q x f t) h.1)
    settle_same (ElementOf q x y) made =
        let h = settle_part_same x made in
        let left = settle_part (one os) x made in
        let right = settle_part (two os) x made in
        let g = settle_part_same y right.made in (
          ap (λ m. (settle_part (one os) y m).made) h.0 ∙ g.0,
          ap (λ z. ElementOf q z (settle_part (one os) y left.made).target) h.1 ∙ ap (λ m. ElementOf q right.target (settle_part (one os) y m).target) h.0 ∙ ap (λ z. ElementOf q right.target z) g.1,
        )
    settle_same target made = (refl, refl)

    after_same : (f : ExprTree → ExprTree) (x y : Settled) → SameSettled x y → (assign_after (one os) (f x.target) x).made ≡ (assign_after (two os) (f y.target) y).made
    after_same f x y h =
        ap (λ t. (assign_settled (one os) t (f t) x.made).made) h.1
        ∙ ap (λ m. (assign_settled (one os) y.target (f y.target) m).made) h.0
        ∙ assign_settled_same y.target (f y.target) y.made

    assign_same : (target e : ExprTree) → CodeAlike (assign (one os) target e) (assign (two os) target e)
    assign_same target e made =
        both_either (λ (x y : Coded). x.made ≡ y.made) (has_call target || has_call e) (assign_after (one os) e (settle (one os) target made)) (assign_after (two os) e (settle (two os) target made)) (assign_settled (one os) target e made) (assign_settled (two os) target e made)
        (after_same (λ t. e) (settle (one os) target made) (settle (two os) target made) (settle_same target made))
        (assign_settled_same target e made)

    update_same : (o : Operator) (target e : ExprTree) → CodeAlike (update (one os) o target e) (update (two os) o target e)
    update_same o target e made = after_same (λ t. BinaryOf (place_of t) o t e) (settle (one os) target made) (settle (two os) target made) (settle_same target made)

    assignment_same : (target : ExprTree) (o : AssignOperator) (e : ExprTree) → CodeAlike (assignment (one os) target o e) (assignment (two os) target o e)
    assignment_same target operator.Set e made = assign_same target e made
    assignment_same target operator.Add e made = update_same op.Add target e made
    assignment_same target operator.Subtract e made = update_same op.Subtract target e made
    assignment_same target operator.Multiply e made = update_same op.Multiply target e made

    -- ---- simple statements

    declared_as_same : (d : DeclaratorTree) (e : Option ExprTree) → CodeAlike (declared_as (one os) d e) (declared_as (two os) d e)
    declared_as_same d None made = refl
    declared_as_same d (Some e) made = (right_same e made).0

    declare_same : (ds : List DeclaratorTree) → CodeAlike (declare (one os) ds) (declare (two os) ds)
    declare_same [] made = refl
    declare_same (d ∷ ds) made = code_then (declared_as (one os) d d.initial made).made (declared_as (two os) d d.initial made).made (declare (one os) ds) (declare (two os) ds) (declared_as_same d d.initial made) (declare_same ds)

    print_same : (q : Place) (e : Option ExprTree) (line : Bool) → CodeAlike (print (one os) q e line) (print (two os) q e line)
    print_same q None line made = refl
    print_same q (Some e) line made = value_same e made

    base_same : (q : Place) (es : Arguments) (t : ℕ) → CodeAlike (base_of (one os) q es t) (base_of (two os) q es t)
    base_same q es t made =
        let ts = param_types_in (constructor_of p t) in
        both_either (λ (x y : Coded). x.made ≡ y.made) (t == 0) (record { code = ready_after (one os) q t; made = made }) (record { code = ready_after (two os) q t; made = made }) (base_with (one os) q t (arguments_of (one os) ts es made)) (base_with (two os) q t (arguments_of (two os) ts es made))
        refl
        (operands_same es (in_temporaries (one os) ts es) (in_temporaries (two os) ts es) (in_temporaries_same ts es) made)

    simple_same : (x : SimpleTree) → CodeAlike (simple (one os) x) (simple (two os) x)
    simple_same (AssignOf target o e) made = assignment_same target o e made
    simple_same (StepOf target o) made = update_same (step_operator o) target (IntOf (place_of target) (pos 1)) made
    simple_same (AloneOf e) made = (right_same e made).0
    simple_same (PrintOf q e line) made = print_same q e line made
    simple_same (PrintTextOf q text line) made = refl
    simple_same (BaseCallOf q es) made = base_same q es (above_of p b.class) made

    -- ---- loops and returns

    loop_same : (q : Place) (is : List ExprTree) (e : Option ExprTree) (f g : List Ty → Coded) → CodeAlike f g → CodeAlike (loop_while (one os) q is e f) (loop_while (two os) q is e g)
    loop_same q is None f g h made = h made
    loop_same q is (Some e) f g h made = code_then (value (one os) e made).made (value (two os) e made).made f g (value_same e made) h

    begin_same : (i : Option InitTree) → CodeAlike (begin (one os) i) (begin (two os) i)
    begin_same None made = refl
    begin_same (Some (DeclareFirst ds)) made = declare_same ds made
    begin_same (Some (SimpleFirst x)) made = simple_same x made

    advance_same : (x : Option SimpleTree) → CodeAlike (advance (one os) x) (advance (two os) x)
    advance_same None made = refl
    advance_same (Some x) made = simple_same x made

    leave_value_same : (q : Place) (e : ExprTree) (around : List Opened) → CodeAlike (leave_value (one os) q e around) (leave_value (two os) q e around)
    leave_value_same q e [] made = value_same e made
    leave_value_same q e (o ∷ around) made = ap (λ m. m ++ result_type b.result ∷ []) (right_same e made).0

    leave_same : (q : Place) (e : Option ExprTree) → CodeAlike (leave (one os) q e) (leave (two os) q e)
    leave_same q None made = refl
    leave_same q (Some e) made = leave_value_same q e os made

    if_more : (c : Bool) (f g : List Ty → Coded) → CodeAlike f g → CodeAlike (if c then f else nothing) (if c then g else nothing)
    if_more true f g h made = h made
    if_more false f g h made = refl

  -- ---- statements

  expose_same : (os : List Opened) (q : Place) (e : ExprTree) (t : ℕ) (ends : Bool) (inner : ElaborationContext → List Ty → Coded) (l r : Lifted) → l.made ≡ r.made → ((o : Opened) → CodeAlike (inner (within (one os) o)) (inner (within (two os) o))) →
      (expose_lifted (one os) q e t ends inner l).made ≡ (expose_lifted (two os) q e t ends inner r).made
  expose_same os q e t ends inner l r h i =
      let kind = temporary_type any_object (type_of e) in
      let o = opened q (first + length r.made) t in
      closed_made (opened q (first + length l.made) t) ends (inner (within (one os) (opened q (first + length l.made) t)) (l.made ++ kind ∷ []))
      ∙ ap (λ m. (inner (within (one os) (opened q (first + length m) t)) (m ++ kind ∷ [])).made) h
      ∙ i o (r.made ++ kind ∷ [])
      ∙ sym (closed_made o ends (inner (within (two os) o) (r.made ++ kind ∷ [])))

  mutual
    stmt_same : (os : List Opened) (x : StmtTree) → CodeAlike (stmt (one os) x) (stmt (two os) x)
    stmt_same os (InBlock c) made = block_same os c made
    stmt_same os (DeclareOf ds) made = declare_same os ds made
    stmt_same os (SimpleOf x) made = simple_same os x made
    stmt_same os (IfOf q e a) made = code_then (value (one os) e made).made (value (two os) e made).made (stmt (one os) a) (stmt (two os) a) (value_same os e made) (stmt_same os a)
    stmt_same os (IfElseOf q e a c) made =
        let h = code_then (value (one os) e made).made (value (two os) e made).made (stmt (one os) a) (stmt (two os) a) (value_same os e made) (stmt_same os a) in
        code_then (stmt (one os) a (value (one os) e made).made).made (stmt (two os) a (value (two os) e made).made).made (stmt (one os) c) (stmt (two os) c) h (stmt_same os c)
    stmt_same os (WhileOf q e is a) made = loop_same os q is (Some e) (stmt (one os) a) (stmt (two os) a) (stmt_same os a) made
    stmt_same os (ForOf q i e x is a) made =
        let f = λ (m : List Ty). then_code (stmt (one os) a m) (if can_end a then advance (one os) x else nothing) in
        let g = λ (m : List Ty). then_code (stmt (two os) a m) (if can_end a then advance (two os) x else nothing) in
        let turn : CodeAlike f g = λ m. code_then (stmt (one os) a m).made (stmt (two os) a m).made (if can_end a then advance (one os) x else nothing) (if can_end a then advance (two os) x else nothing) (stmt_same os a m) (if_more os (can_end a) (advance (one os) x) (advance (two os) x) (advance_same os x)) in
        code_then (begin (one os) i made).made (begin (two os) i made).made (loop_while (one os) q is e f) (loop_while (two os) q is e g) (begin_same os i made) (loop_same os q is e f g turn)
    stmt_same os (ReturnOf q e) made = leave_same os q e made
    stmt_same os (AssertOf q e) made = refl
    stmt_same os (AssumeOf q e) made = refl
    stmt_same os (ExposeOf q e t c) made = expose_same os q e (exposed_class e t) (block_can_end c) (λ z m. block z c m) (right_side (one os) e made) (right_side (two os) e made) (right_same os e made).0 (λ o. block_same (os ++ o ∷ []) c)
    stmt_same os (EmptyOf q) made = refl

    block_same : (os : List Opened) (c : BlockTree) → CodeAlike (block (one os) c) (block (two os) c)
    block_same os (BlockOf q ss end) made = stmts_same os ss made

    pub stmts_same : (os : List Opened) (ss : StmtTrees) → CodeAlike (stmts (one os) ss) (stmts (two os) ss)
    stmts_same os typed.NoMore made = refl
    stmts_same os (Before x xs) made =
        code_then (stmt (one os) x made).made (stmt (two os) x made).made (if can_end x then stmts (one os) xs else nothing) (if can_end x then stmts (two os) xs else nothing) (stmt_same os x made) (if_more os (can_end x) (stmts (one os) xs) (stmts (two os) xs) (stmts_same os xs))
