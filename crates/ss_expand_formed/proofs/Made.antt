-- The temporaries that elaborated code makes have types of the table.
use Rattle.std.proofs.Common.{◌≡◌, ℕ, List, [], ◌∷◌, ◌++◌, map, Bool, true, false, Option, Some, None, refl, ◌∙◌, ap}
use Rattle.std.specs.Prelude.{◌&&◌, ◌||◌, ◌==◌, slice_get, option_and_then, if◌then◌else◌, pos}
use Rattle.std.specs.List.{list_all}
use Rattle.std.proofs.lemmas.Bool.{and_parts, and_from}
use Rattle.std.proofs.lemmas.List.Folds.{list_all-append}
use Rattle.ss_core.specs.declared.names.Place.{Place}
use Rattle.ss_core.specs.declared.names.Ty.{Ty}
use Rattle.ss_core.specs.declared.names.Ty.TheVariants as ty
use Rattle.ss_core.specs.declared.expr.Operator.{Operator}
use Rattle.ss_core.specs.declared.expr.Operator.TheVariants as op
use Rattle.ss_core.specs.Tree as core
use Rattle.ss_core.specs.Tree.{NotExpr, BinaryExpr, IffExpr}
use Rattle.ss_core.specs.Chain.{is_class, is_type}
use Rattle.ss_ast.specs.declared.stmt.AssignOperator.{AssignOperator}
use Rattle.ss_ast.specs.declared.stmt.AssignOperator.TheVariants as operator
use Rattle.ss_typed.specs.Tree.{ExprTree, IntOf, LocalOf, IffOf, ImpliesOf, BinaryOf, IsOf, AsOf, NegateOf, NotOf, CastOf, FieldOf, ElementOf, LengthOf, NewOf, NewArrayOf, CallOf, StaticOf, BaseOf, Arguments, NoMore, Argument, DeclaratorTree, SimpleTree, AssignOf, StepOf, AloneOf, PrintOf, PrintTextOf, BaseCallOf, InitTree, DeclareFirst, SimpleFirst, BlockTree, BlockOf, StmtTree, InBlock, DeclareOf, SimpleOf, IfOf, IfElseOf, WhileOf, ForOf, ReturnOf, AssertOf, AssumeOf, ExposeOf, EmptyOf, StmtTrees, Before, ParamTree, MembersTree, BodyTree, TypedTree}
use Rattle.ss_typed.specs.Tree as typed
use Rattle.ss_typed.specs.Types.{type_of}
use Rattle.ss_expand_rules.specs.Numbers.{plain, plain_arguments}
use Rattle.ss_expand_rules.specs.Calls.{has_call, have_call, is_lazy}
use Rattle.ss_typed.specs.Shapes.{is_this, place_of}
use Rattle.ss_expand_rules.specs.Program.{table, method_at, above_of}
use Rattle.ss_typed.specs.Lookups.{body_at, constructor_in, constructor_of, members_of, param_types_in}
use Rattle.ss_expand_rules.specs.Code.{Coded, nothing, then_code}
use Rattle.ss_expand_rules.specs.Lifting.{Opened, ElaborationContext, Source, Pure, Created, CreatedArray, Called, Lifted, Valued, Listed, unlifted, next, temporary_type, any_object, in_temporary, valued_from, valued, lifted_of, operand, unary, binary, lazily, holds, fails, negated, operation, first_type, other_types, no_operands, operands_of, and_operands, static_class, types_of_constructor, types_of_written, types_of_method, lifted, in_temporaries, right_side, value, arguments_of}
use Rattle.ss_expand_rules.specs.Simple.{assign_settled, Settled, settle_lifted, settle_part, settle, assign_after, assign, update, assignment, step_operator, declared_as, declare, print, ready_after, base_with, base_of, simple}
use Rattle.ss_expand_rules.specs.Ends.{can_end, block_can_end}
use Rattle.ss_expand_rules.specs.Statements.{loop_while, begin, advance, result_type, leave_value, leave, exposed_class, within, opened, expose_lifted, stmt, block, stmts}
use Rattle.ss_expand_formed.proofs.Facts.{all_at}
use Rattle.ss_expand_formed.proofs.Choosing.{on_either}
use Rattle.ss_expand_formed.proofs.Counted.{closed_made}
use Rattle.ss_expand_formed.proofs.Typings.{may_be, may_have, has_types, have_types, may_type, declared_typed, simple_typed, begin_typed, advance_typed, stmt_typed, block_typed, all_typed, object_known, type_may, temporary_known}

module _ (C : List core.ClassTree) where
  abbrev pub are_types : List Ty → Bool
  are_types ts = list_all (is_type C) ts

  abbrev pub params_typed : BodyTree → Bool
  params_typed b = list_all (λ (q : ParamTree). is_type C q.ty) b.params

  -- the parameters of all bodies and the result of this one have types of the table
  pub record Fitting (s : ElaborationContext) : Type 0 where
    pub bodies : list_all params_typed s.program.bodies ≡ true
    pub result : is_type C (result_type s.body.result) ≡ true

  abbrev Ok : ExprTree → Type 0
  Ok e = has_types C e ≡ true

  abbrev K : List Ty → Type 0
  K ts = are_types ts ≡ true

  abbrev Lifts : (List Ty → Lifted) → Type 0
  Lifts f = (made : List Ty) → K made → K (f made).made

  abbrev Values : (List Ty → Valued) → Type 0
  Values f = (made : List Ty) → K made → K (f made).made

  abbrev Lists : (List Ty → Listed) → Type 0
  Lists f = (made : List Ty) → K made → K (f made).made

  abbrev Codes : (List Ty → Coded) → Type 0
  Codes f = (made : List Ty) → K made → K (f made).made

  one_more : (ts : List Ty) (t : Ty) → K ts → is_type C t ≡ true → K (ts ++ t ∷ [])
  one_more ts t h g = list_all-append (is_type C) ts (t ∷ []) ∙ rw (h, g) refl

  object : is_type C any_object ≡ true
  object = object_known C

  -- ---- types of parameters

  types_in : (qs : List ParamTree) → list_all (λ (q : ParamTree). is_type C q.ty) qs ≡ true → K (map (λ (q : ParamTree). q.ty) qs)
  types_in [] h = refl
  types_in (q ∷ qs) h = let both = and_parts (is_type C q.ty) (list_all (λ (x : ParamTree). is_type C x.ty) qs) h in and_from _ _ both.0 (types_in qs both.1)

  module _ (p : TypedTree) (all : list_all params_typed p.bodies ≡ true) where
    body_by : (n : ℕ) (b : Option BodyTree) → body_at p n ≡ b → K (param_types_in b)
    body_by n None e = refl
    body_by n (Some b) e = types_in b.params (all_at params_typed p.bodies n b all e)

    body_types : (n : ℕ) → K (param_types_in (body_at p n))
    body_types n = body_by n (body_at p n) refl

    option_types : (n : Option ℕ) → K (param_types_in (option_and_then (body_at p) n))
    option_types None = refl
    option_types (Some n) = body_types n

    entry_types : (e : Option core.EntryTree) → K (param_types_in (option_and_then (λ (x : core.EntryTree). body_at p x.body) e))
    entry_types None = refl
    entry_types (Some e) = body_types e.body

    constructor_by : (m : Option MembersTree) → K (param_types_in (constructor_in p m))
    constructor_by None = refl
    constructor_by (Some m) = option_types m.constructor

    constructor_types : (t : ℕ) → K (param_types_in (constructor_of p t))
    constructor_types t = constructor_by (members_of p t)

    method_types : (t m : ℕ) → K (param_types_in (method_at p t m))
    method_types t m = entry_types (slice_get (table p t) m)

  -- ---- operands

  valued_made : (s : ElaborationContext) (e : ExprTree) → Ok e → (l : Lifted) (v : Source) → K l.made → K (valued_from s.numbers e l v).made
  valued_made s e g l (Pure x) h = h
  valued_made s e g l (Created p t es) h = one_more l.made _ h (temporary_known C any_object e object g)
  valued_made s e g l (CreatedArray p t n) h = one_more l.made _ h (temporary_known C any_object e object g)
  valued_made s e g l (Called p callee es) h = one_more l.made _ h (temporary_known C any_object e object g)

  lifted_of_made : (s : ElaborationContext) (e : ExprTree) (f : List Ty → Lifted) → Lifts f → Lifts (lifted_of s.numbers e f)
  lifted_of_made s e f h made k = on_either (λ (l : Lifted). K l.made) (has_call e) (f made) (unlifted (plain s.numbers e) made) (h made k) k

  operand_made : (s : ElaborationContext) (t : Ty) → is_type C t ≡ true → (e : ExprTree) → Ok e → (f : List Ty → Lifted) → Lifts f → Values (operand s.numbers t e f)
  operand_made s t w e g f h made k =
      on_either (λ (v : Valued). K v.made) (is_lazy e && has_call e) (valued s.numbers e (f made)) (in_temporary s.numbers (place_of e) (temporary_type t (type_of e)) (lifted_of s.numbers e f made))
      (valued_made s e g (f made) (f made).source (h made k))
      (one_more (lifted_of s.numbers e f made).made _ (lifted_of_made s e f h made k) (temporary_known C t e w g))

  -- ---- lazy operations

  lazily_made : (s : ElaborationContext) (p : Place) (a b : ExprTree) (test : core.ExprTree → core.ExprTree) (first : Lifted) (second : List Ty → Lifted) → K first.made → Lifts second → K (lazily s.numbers p a b test first second).made
  lazily_made s p a b test first second h g = g (first.made ++ ty.Bool ∷ []) (one_more first.made ty.Bool h refl)

  negated_made : (s : ElaborationContext) (a : ExprTree) → Ok a → (f : List Ty → Lifted) → Lifts f → Lifts (negated s.numbers a f)
  negated_made s a g f h made k =
      on_either (λ (l : Lifted). K l.made) (has_call a) (unary (NotExpr (place_of a)) (operand s.numbers ty.Bool a f made)) (unlifted (NotExpr (place_of a) (plain s.numbers a)) made)
      (operand_made s ty.Bool refl a g f h made k) k

  binary_made : (s : ElaborationContext) (a b : ExprTree) → Ok a → Ok b → (f g : List Ty → Lifted) → Lifts f → Lifts g → (h : core.ExprTree → core.ExprTree → core.ExprTree) → Lifts (λ made. binary h (operand s.numbers any_object a f made) (operand s.numbers any_object b g))
  binary_made s a b x y f g i j h made k = operand_made s any_object object b y g j (operand s.numbers any_object a f made).made (operand_made s any_object object a x f i made k)

  operation_made : (s : ElaborationContext) (p : Place) (o : Operator) (a b : ExprTree) → Ok a → Ok b → (f g : List Ty → Lifted) → Lifts f → Lifts g → Lifts (operation s.numbers p o a b f g)
  operation_made s p op.And a b x y f g h i made k = lazily_made s p a b holds (lifted_of s.numbers a f made) (lifted_of s.numbers b g) (lifted_of_made s a f h made k) (lifted_of_made s b g i)
  operation_made s p op.Or a b x y f g h i made k = lazily_made s p a b (fails p) (lifted_of s.numbers a f made) (lifted_of s.numbers b g) (lifted_of_made s a f h made k) (lifted_of_made s b g i)
  operation_made s p o a b x y f g h i made k = binary_made s a b x y f g h i (BinaryExpr p o) made k

  -- ---- calls

  operands_made : (s : ElaborationContext) (es : Arguments) (f : List Ty → Listed) → Lists f → Lists (operands_of s.numbers es f)
  operands_made s es f h made k = on_either (λ (l : Listed). K l.made) (have_call es) (f made) (record { code = []; values = plain_arguments s.numbers es; made = made }) (h made k) k

  first_known : (ts : List Ty) → K ts → is_type C (first_type ts) ≡ true
  first_known [] h = object
  first_known (t ∷ ts) h = (and_parts (is_type C t) (are_types ts) h).0

  others_known : (ts : List Ty) → K ts → K (other_types ts)
  others_known [] h = refl
  others_known (t ∷ ts) h = (and_parts (is_type C t) (are_types ts) h).1

  module _ (s : ElaborationContext) (fit : Fitting s) where
    mutual
      lifted_made : (e : ExprTree) → Ok e → Lifts (lifted s e)
      lifted_made (IffOf p a b) g made k = let x = and_parts (has_types C a) (has_types C b) g in binary_made s a b x.0 x.1 (lifted s a) (lifted s b) (lifted_made a x.0) (lifted_made b x.1) (IffExpr p) made k
      lifted_made (ImpliesOf p a b) g made k =
          let x = and_parts (has_types C a) (has_types C b) g in
          lazily_made s p a b (fails p) (negated s.numbers a (lifted s a) made) (lifted_of s.numbers b (lifted s b)) (negated_made s a x.0 (lifted s a) (lifted_made a x.0) made k) (lifted_of_made s b (lifted s b) (lifted_made b x.1))
      lifted_made (BinaryOf p o a b) g made k = let x = and_parts (has_types C a) (has_types C b) g in operation_made s p o a b x.0 x.1 (lifted s a) (lifted s b) (lifted_made a x.0) (lifted_made b x.1) made k
      lifted_made (IsOf p e t) g made k = operand_made s any_object object e g (lifted s e) (lifted_made e g) made k
      lifted_made (AsOf p e t) g made k = let x = and_parts (is_class C t) (has_types C e) g in operand_made s any_object object e x.1 (lifted s e) (lifted_made e x.1) made k
      lifted_made (NegateOf p e) g made k = operand_made s any_object object e g (lifted s e) (lifted_made e g) made k
      lifted_made (NotOf p e) g made k = operand_made s any_object object e g (lifted s e) (lifted_made e g) made k
      lifted_made (CastOf p t non_null e) g made k = let x = and_parts (is_class C t) (has_types C e) g in operand_made s any_object object e x.1 (lifted s e) (lifted_made e x.1) made k
      lifted_made (FieldOf p e f t) g made k = let x = and_parts (may_be C t) (has_types C e) g in operand_made s any_object object e x.1 (lifted s e) (lifted_made e x.1) made k
      lifted_made (ElementOf p a b) g made k = let x = and_parts (has_types C a) (has_types C b) g in binary_made s a b x.0 x.1 (lifted s a) (lifted s b) (lifted_made a x.0) (lifted_made b x.1) (core.ElementExpr p) made k
      lifted_made (LengthOf p e) g made k = operand_made s any_object object e g (lifted s e) (lifted_made e g) made k
      lifted_made (NewOf p t es) g made k =
          let x = and_parts (is_class C t) (have_types C es) g in
          operands_made s es (in_temporaries s (types_of_constructor s t) es) (all_made (types_of_constructor s t) (constructor_types s.program fit.bodies t) es x.1) made k
      lifted_made (NewArrayOf p t e) g made k =
          let x = and_parts (is_class C t) (has_types C e) g in
          operands_made s (Argument e NoMore) (λ m. and_operands (operand s.numbers any_object e (lifted s e) m) no_operands) (operand_made s any_object object e x.1 (lifted s e) (lifted_made e x.1)) made k
      lifted_made (CallOf p e m t es) g made k =
          let x = and_parts (may_have C t) (has_types C e && have_types C es) g in
          let y = and_parts (has_types C e) (have_types C es) x.1 in
          let ts = types_of_method s (static_class e) m in
          operands_made s (Argument e es) (λ n. and_operands (operand s.numbers any_object e (lifted s e) n) (in_temporaries s ts es))
          (λ n i. all_made ts (method_types s.program fit.bodies (static_class e) m) es y.1 (operand s.numbers any_object e (lifted s e) n).made (operand_made s any_object object e y.0 (lifted s e) (lifted_made e y.0) n i)) made k
      lifted_made (StaticOf p n t es) g made k =
          let x = and_parts (may_have C t) (have_types C es) g in
          operands_made s es (in_temporaries s (types_of_written s n) es) (all_made (types_of_written s n) (body_types s.program fit.bodies n) es x.1) made k
      lifted_made (BaseOf p m t es) g made k =
          let x = and_parts (may_have C t) (have_types C es) g in
          let ts = types_of_method s (above_of s.program s.body.class) m in
          operands_made s es (in_temporaries s ts es) (all_made ts (method_types s.program fit.bodies (above_of s.program s.body.class) m) es x.1) made k
      lifted_made e g made k = k

      all_made : (ts : List Ty) → K ts → (es : Arguments) → have_types C es ≡ true → Lists (in_temporaries s ts es)
      all_made ts w NoMore g made k = k
      all_made ts w (Argument e es) g made k =
          let x = and_parts (has_types C e) (have_types C es) g in
          all_made (other_types ts) (others_known ts w) es x.1 (operand s.numbers (first_type ts) e (lifted s e) made).made (operand_made s (first_type ts) (first_known ts w) e x.0 (lifted s e) (lifted_made e x.0) made k)

    right_made : (e : ExprTree) → Ok e → Lifts (right_side s e)
    right_made e g = lifted_of_made s e (lifted s e) (lifted_made e g)

    value_made : (e : ExprTree) → Ok e → Values (value s e)
    value_made e g made k = valued_made s e g (right_side s e made) (right_side s e made).source (right_made e g made k)

    -- ---- assignments

    abbrev Settles : Settled → Type 0
    Settles x = K x.made × Ok x.target

    assign_settled_made : (target e : ExprTree) → Ok e → Codes (assign_settled s target e)
    assign_settled_made (LocalOf p x t) e g made k = right_made e g made k
    assign_settled_made target e g made k = value_made e g made k

    settle_part_made : (e : ExprTree) → Ok e → (made : List Ty) → K made → Settles (settle_part s e made)
    settle_part_made e g made k =
        let l = right_side s e made in
        let t = temporary_known C any_object e object g in
        on_either Settles (is_this e) (record { code = []; target = e; made = made }) (settle_lifted s e l) (k, g)
        (one_more l.made _ (right_made e g made k) t, type_may C (temporary_type any_object (type_of e)) t)

    settle_made : (target : ExprTree) → Ok target → (made : List Ty) → K made → Settles (settle s target made)
    settle_made (FieldOf p o f t) g made k =
        let x = and_parts (may_be C t) (has_types C o) g in
        let r = settle_part_made o x.1 made k in
        (r.0, and_from _ _ x.0 r.1)
    settle_made (ElementOf p a i) g made k =
        let x = and_parts (has_types C a) (has_types C i) g in
        let r = settle_part_made a x.0 made k in
        let q = settle_part_made i x.1 (settle_part s a made).made r.0 in
        (q.0, and_from _ _ r.1 q.1)
    settle_made target g made k = (k, g)

    assign_made : (target e : ExprTree) → Ok target → Ok e → Codes (assign s target e)
    assign_made target e x y made k =
        let t = settle s target made in
        on_either (λ (c : Coded). K c.made) (has_call target || has_call e) (assign_after s e t) (assign_settled s target e made)
        (assign_settled_made t.target e y t.made (settle_made target x made k).0)
        (assign_settled_made target e y made k)

    update_made : (o : Operator) (target e : ExprTree) → Ok target → Ok e → Codes (update s o target e)
    update_made o target e x y made k =
        let t = settle s target made in
        let r = settle_made target x made k in
        assign_settled_made t.target (BinaryOf (place_of t.target) o t.target e) (and_from _ _ r.1 y) t.made r.0

    assignment_made : (target : ExprTree) (o : AssignOperator) (e : ExprTree) → Ok target → Ok e → Codes (assignment s target o e)
    assignment_made target operator.Set e x y made k = assign_made target e x y made k
    assignment_made target operator.Add e x y made k = update_made op.Add target e x y made k
    assignment_made target operator.Subtract e x y made k = update_made op.Subtract target e x y made k
    assignment_made target operator.Multiply e x y made k = update_made op.Multiply target e x y made k

    -- ---- simple statements

    declared_made : (d : DeclaratorTree) (e : Option ExprTree) → may_type C e ≡ true → Codes (declared_as s d e)
    declared_made d None g made k = k
    declared_made d (Some e) g made k = right_made e g made k

    declare_made : (ds : List DeclaratorTree) → declared_typed C ds ≡ true → Codes (declare s ds)
    declare_made [] g made k = k
    declare_made (d ∷ ds) g made k =
        let x = and_parts (may_type C d.initial) (declared_typed C ds) g in
        declare_made ds x.1 (declared_as s d d.initial made).made (declared_made d d.initial x.0 made k)

    print_made : (p : Place) (e : Option ExprTree) (line : Bool) → may_type C e ≡ true → Codes (print s p e line)
    print_made p None line g made k = k
    print_made p (Some e) line g made k = value_made e g made k

    base_made : (p : Place) (es : Arguments) (t : ℕ) → have_types C es ≡ true → Codes (base_of s p es t)
    base_made p es t g made k =
        let ts = param_types_in (constructor_of s.program t) in
        on_either (λ (c : Coded). K c.made) (t == 0) (record { code = ready_after s p t; made = made }) (base_with s p t (arguments_of s ts es made)) k
        (operands_made s es (in_temporaries s ts es) (all_made ts (constructor_types s.program fit.bodies t) es g) made k)

    simple_made : (x : SimpleTree) → simple_typed C x ≡ true → Codes (simple s x)
    simple_made (AssignOf target o e) g made k = let x = and_parts (has_types C target) (has_types C e) g in assignment_made target o e x.0 x.1 made k
    simple_made (StepOf target o) g made k = update_made (step_operator o) target (IntOf (place_of target) (pos 1)) g refl made k
    simple_made (AloneOf e) g made k = right_made e g made k
    simple_made (PrintOf p e line) g made k = print_made p e line g made k
    simple_made (PrintTextOf p text line) g made k = k
    simple_made (BaseCallOf p es) g made k = base_made p es (above_of s.program s.body.class) g made k

    -- ---- loops and returns

    loop_made : (p : Place) (is : List ExprTree) (e : Option ExprTree) → may_type C e ≡ true → (f : List Ty → Coded) → Codes f → Codes (loop_while s p is e f)
    loop_made p is None g f h made k = h made k
    loop_made p is (Some e) g f h made k = h (value s e made).made (value_made e g made k)

    begin_made : (i : Option InitTree) → begin_typed C i ≡ true → Codes (begin s i)
    begin_made None g made k = k
    begin_made (Some (DeclareFirst ds)) g made k = declare_made ds g made k
    begin_made (Some (SimpleFirst x)) g made k = simple_made x g made k

    advance_made : (x : Option SimpleTree) → advance_typed C x ≡ true → Codes (advance s x)
    advance_made None g made k = k
    advance_made (Some x) g made k = simple_made x g made k

    leave_value_made : (p : Place) (e : ExprTree) → Ok e → (os : List Opened) → Codes (leave_value s p e os)
    leave_value_made p e g [] made k = value_made e g made k
    leave_value_made p e g (o ∷ os) made k = one_more (right_side s e made).made (result_type s.body.result) (right_made e g made k) fit.result

    leave_made : (p : Place) (e : Option ExprTree) → may_type C e ≡ true → Codes (leave s p e)
    leave_made p None g made k = k
    leave_made p (Some e) g made k = leave_value_made p e g s.exposes made k

    expose_made : (p : Place) (e : ExprTree) → Ok e → (t : ℕ) (ends : Bool) (inner : ElaborationContext → List Ty → Coded) → ((o : Opened) → Codes (inner (within s o))) → (l : Lifted) → K l.made → K (expose_lifted s p e t ends inner l).made
    expose_made p e g t ends inner h l k =
        let kind = temporary_type any_object (type_of e) in
        let o = opened p (next s.numbers l.made) t in
        let c = inner (within s o) (l.made ++ kind ∷ []) in
        ap are_types (closed_made o ends c) ∙ h o (l.made ++ kind ∷ []) (one_more l.made kind k (temporary_known C any_object e object g))

  -- ---- statements

  inside : (s : ElaborationContext) → Fitting s → (o : Opened) → Fitting (within s o)
  inside s fit o = record { bodies = fit.bodies; result = fit.result }

  more_made : (b : Bool) (f : List Ty → Coded) → Codes f → Codes (if b then f else nothing)
  more_made true f h made k = h made k
  more_made false f h made k = k

  mutual
    stmt_made : (s : ElaborationContext) → Fitting s → (x : StmtTree) → stmt_typed C x ≡ true → Codes (stmt s x)
    stmt_made s fit (InBlock b) g made k = block_made s fit b g made k
    stmt_made s fit (DeclareOf ds) g made k = declare_made s fit ds g made k
    stmt_made s fit (SimpleOf x) g made k = simple_made s fit x g made k
    stmt_made s fit (IfOf p e a) g made k =
        let x = and_parts (has_types C e) (stmt_typed C a) g in
        stmt_made s fit a x.1 (value s e made).made (value_made s fit e x.0 made k)
    stmt_made s fit (IfElseOf p e a b) g made k =
        let x = and_parts (has_types C e) (stmt_typed C a && stmt_typed C b) g in
        let y = and_parts (stmt_typed C a) (stmt_typed C b) x.1 in
        stmt_made s fit b y.1 (stmt s a (value s e made).made).made (stmt_made s fit a y.0 (value s e made).made (value_made s fit e x.0 made k))
    stmt_made s fit (WhileOf p e is a) g made k =
        let x = and_parts (has_types C e) (stmt_typed C a) g in
        loop_made s fit p is (Some e) x.0 (stmt s a) (stmt_made s fit a x.1) made k
    stmt_made s fit (ForOf p i e x is a) g made k =
        let one = and_parts (begin_typed C i) (may_type C e && (advance_typed C x && stmt_typed C a)) g in
        let two = and_parts (may_type C e) (advance_typed C x && stmt_typed C a) one.1 in
        let three = and_parts (advance_typed C x) (stmt_typed C a) two.1 in
        let turn = λ (m : List Ty). then_code (stmt s a m) (if can_end a then advance s x else nothing) in
        loop_made s fit p is e two.0 turn (λ m i. more_made (can_end a) (advance s x) (advance_made s fit x three.0) (stmt s a m).made (stmt_made s fit a three.1 m i)) (begin s i made).made (begin_made s fit i one.0 made k)
    stmt_made s fit (ReturnOf p e) g made k = leave_made s fit p e g made k
    stmt_made s fit (AssertOf p e) g made k = k
    stmt_made s fit (AssumeOf p e) g made k = k
    stmt_made s fit (ExposeOf p e t b) g made k =
        let x = and_parts (has_types C e) (block_typed C b) g in
        expose_made s fit p e x.0 (exposed_class e t) (block_can_end b) (λ z m. block z b m) (λ o. block_made (within s o) (inside s fit o) b x.1) (right_side s e made) (right_made s fit e x.0 made k)
    stmt_made s fit (EmptyOf p) g made k = k

    block_made : (s : ElaborationContext) → Fitting s → (b : BlockTree) → block_typed C b ≡ true → Codes (block s b)
    block_made s fit (BlockOf p ss end) g made k = stmts_made s fit ss g made k

    pub stmts_made : (s : ElaborationContext) → Fitting s → (ss : StmtTrees) → all_typed C ss ≡ true → Codes (stmts s ss)
    stmts_made s fit typed.NoMore g made k = k
    stmts_made s fit (Before x xs) g made k =
        let y = and_parts (stmt_typed C x) (all_typed C xs) g in
        more_made (can_end x) (stmts s xs) (stmts_made s fit xs y.1) (stmt s x made).made (stmt_made s fit x y.0 made k)
