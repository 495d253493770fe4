-- Elaborated code has its shape.
use Rattle.std.proofs.Common.{◌≡◌, ℕ, suc, List, [], ◌∷◌, ◌++◌, length, Bool, true, false, Option, Some, None, refl, sym, ◌∙◌, ap, subst, append_assoc, append-nil}
use Rattle.std.specs.Prelude.{◌&&◌, ◌||◌, ◌==◌, if◌then◌else◌, pos}
use Rattle.std.proofs.lemmas.Bool.{and_parts, eq-eqb}
use Rattle.ss_core.specs.declared.names.Place.{Place}
use Rattle.ss_core.specs.declared.names.Ty.{Ty}
use Rattle.ss_core.specs.declared.names.Ty.TheVariants as ty
use Rattle.ss_core.specs.declared.expr.Operator.{Operator}
use Rattle.ss_core.specs.declared.expr.Operator.TheVariants as op
use Rattle.ss_core.specs.Tree as core
use Rattle.ss_core.specs.Tree.{BoolExpr, NotExpr, BinaryExpr, IffExpr, AssignStmt, WriteStmt, WriteElementStmt, NewStmt, NewArrayStmt, CallStmt, ReadyStmt, AssertStmt, AssumeStmt, PrintStmt, PrintTextStmt, PackStmt, BaseConstructor}
use Rattle.ss_core.specs.View.{code_of}
use Rattle.ss_core.specs.Chain.{DeclaredField}
use Rattle.ss_ast.specs.declared.stmt.AssignOperator.{AssignOperator}
use Rattle.ss_ast.specs.declared.stmt.AssignOperator.TheVariants as operator
use Rattle.ss_typed.specs.Tree.{ExprTree, IntOf, LocalOf, IffOf, ImpliesOf, BinaryOf, IsOf, AsOf, NegateOf, NotOf, CastOf, FieldOf, ElementOf, LengthOf, NewOf, NewArrayOf, CallOf, StaticOf, BaseOf, Arguments, NoMore, Argument, DeclaratorTree, SimpleTree, AssignOf, StepOf, AloneOf, PrintOf, PrintTextOf, BaseCallOf, InitTree, DeclareFirst, SimpleFirst, BlockTree, BlockOf, StmtTree, InBlock, DeclareOf, SimpleOf, IfOf, IfElseOf, WhileOf, ForOf, ReturnOf, AssertOf, AssumeOf, ExposeOf, EmptyOf, StmtTrees, Before}
use Rattle.ss_typed.specs.Tree as typed
use Rattle.ss_typed.specs.Types.{type_of}
use Rattle.ss_expand_rules.specs.Numbers.{number, plain, all_plain, plain_arguments}
use Rattle.ss_expand_rules.specs.Calls.{has_call, have_call, is_lazy}
use Rattle.ss_typed.specs.Shapes.{is_this, place_of}
use Rattle.ss_expand_rules.specs.Program.{field_at, above_of, Constructor, number_of}
use Rattle.ss_typed.specs.Lookups.{constructor_of, param_types_in}
use Rattle.ss_expand_rules.specs.Code.{Coded, nothing, then_code}
use Rattle.ss_expand_rules.specs.Lifting.{Opened, ElaborationContext, Source, Pure, Created, CreatedArray, Called, put, Lifted, Valued, Listed, unlifted, next, temporary_type, any_object, in_temporary, valued_from, valued, lifted_of, operand, unary, binary, lazily, holds, fails, negated, operation, implication, first_type, other_types, no_operands, operands_of, and_operands, static_class, types_of_constructor, types_of_written, types_of_method, lifted, in_temporaries, right_side, value, arguments_of}
use Rattle.ss_expand_rules.specs.Simple.{default_of, into_local, write_of, write, write_value, assign_settled, Settled, settle_lifted, settle_part, settle, assign_after, assign, update, assignment, step_operator, declared_as, declare, drop_result, print, has_delayed_constructor, ready_after, base_with, base_of, simple}
use Rattle.ss_expand_rules.specs.Ends.{can_end, block_can_end}
use Rattle.ss_expand_rules.specs.Statements.{loop_while, begin, advance, pack_this, packs, leave_with, result_type, kept_result, leave_value, leave, exposed_class, within, close, opened, expose_lifted, stmt, block, stmts}
use Rattle.ss_store_rules.specs.Locals.{targets_only}
use Rattle.ss_expand_formed.proofs.Choosing.{on_either}
use Rattle.ss_expand_formed.proofs.Shape.{Code, is_step, is_this_pack, is_from, closing, Shape, Nothing, Join, Step, Temporary, Lazily, Branch, Loop, Leave, Expose}
use Rattle.ss_expand_formed.proofs.Counted.{closed_made}
use Rattle.ss_expand_formed.proofs.Targets.{target_passes, simple_passes, declared_pass, begin_passes, advance_passes, stmt_passes, block_passes, all_pass}

-- ---- putting a value into a local

put_is_step : (p : Place) (x : ℕ) (s : Source) → is_step (put p x s) ≡ true
put_is_step p x (Pure e) = refl
put_is_step p x (Created q t es) = refl
put_is_step p x (CreatedArray q t e) = refl
put_is_step p x (Called q callee es) = refl

put_target : (among : ℕ → Bool) (p : Place) (x : ℕ) (s : Source) → among x ≡ true → targets_only among (put p x s) ≡ true
put_target among p x (Pure e) h = h
put_target among p x (Created q t es) h = h
put_target among p x (CreatedArray q t e) h = h
put_target among p x (Called q callee es) h = h

put_new : (p : Place) (x : ℕ) (s : Source) → targets_only (λ y. x == y) (put p x s) ≡ true
put_new p x s = put_target (λ y. x == y) p x s (eq-eqb x x refl)

one_longer : (ts : List Ty) (t : Ty) → length (ts ++ t ∷ []) ≡ suc (length ts)
one_longer [] t = refl
one_longer (u ∷ ts) t = ap suc (one_longer ts t)

module _ (low : ℕ) where
  -- from these temporaries to those, code of the shape
  abbrev pub Goes : ElaborationContext → List Ty → Code → List Ty → Type 0
  Goes s made code now = Shape s.body.class low s.numbers.first_temporary s.exposes (length made) code (length now)

  abbrev Lifts : ElaborationContext → (List Ty → Lifted) → Type 0
  Lifts s f = (made : List Ty) → Goes s made (f made).code (f made).made

  abbrev Values : ElaborationContext → (List Ty → Valued) → Type 0
  Values s f = (made : List Ty) → Goes s made (f made).code (f made).made

  abbrev Lists : ElaborationContext → (List Ty → Listed) → Type 0
  Lists s f = (made : List Ty) → Goes s made (f made).code (f made).made

  abbrev Settles : ElaborationContext → (List Ty → Settled) → Type 0
  Settles s f = (made : List Ty) → Goes s made (f made).code (f made).made

  abbrev Codes : ElaborationContext → (List Ty → Coded) → Type 0
  Codes s f = (made : List Ty) → Goes s made (f made).code (f made).made

  -- ---- temporaries

  -- a value is put into a new temporary
  kept : (s : ElaborationContext) (p : Place) (made : List Ty) (t : Ty) (v : Source) → Goes s made (put p (next s.numbers made) v ∷ []) (made ++ t ∷ [])
  kept s p made t v = Temporary (put p (next s.numbers made) v) (put_is_step p (next s.numbers made) v) (put_new p (next s.numbers made) v) (one_longer made t)

  in_temporary_goes : (s : ElaborationContext) (p : Place) (t : Ty) (made : List Ty) (l : Lifted) → Goes s made l.code l.made → Goes s made (in_temporary s.numbers p t l).code (in_temporary s.numbers p t l).made
  in_temporary_goes s p t made l h = Join h (kept s p l.made t l.source)

  valued_from_goes : (s : ElaborationContext) (e : ExprTree) (made : List Ty) (l : Lifted) (v : Source) → Goes s made l.code l.made → Goes s made (valued_from s.numbers e l v).code (valued_from s.numbers e l v).made
  valued_from_goes s e made l (Pure x) h = h
  valued_from_goes s e made l (Created p t es) h = in_temporary_goes s (place_of e) (temporary_type any_object (type_of e)) made l h
  valued_from_goes s e made l (CreatedArray p t n) h = in_temporary_goes s (place_of e) (temporary_type any_object (type_of e)) made l h
  valued_from_goes s e made l (Called p callee es) h = in_temporary_goes s (place_of e) (temporary_type any_object (type_of e)) made l h

  -- ---- operands

  lifted_of_goes : (s : ElaborationContext) (e : ExprTree) (f : List Ty → Lifted) → Lifts s f → Lifts s (lifted_of s.numbers e f)
  lifted_of_goes s e f h made = on_either (λ (l : Lifted). Goes s made l.code l.made) (has_call e) (f made) (unlifted (plain s.numbers e) made) (h made) Nothing

  operand_goes : (s : ElaborationContext) (t : Ty) (e : ExprTree) (f : List Ty → Lifted) → Lifts s f → Values s (operand s.numbers t e f)
  operand_goes s t e f h made =
      on_either (λ (v : Valued). Goes s made v.code v.made) (is_lazy e && has_call e) (valued s.numbers e (f made)) (in_temporary s.numbers (place_of e) (temporary_type t (type_of e)) (lifted_of s.numbers e f made))
      (valued_from_goes s e made (f made) (f made).source (h made))
      (in_temporary_goes s (place_of e) (temporary_type t (type_of e)) made (lifted_of s.numbers e f made) (lifted_of_goes s e f h made))

  binary_goes : (s : ElaborationContext) (made : List Ty) (f : core.ExprTree → core.ExprTree → core.ExprTree) (a : Valued) (b : List Ty → Valued) → Goes s made a.code a.made → Values s b → Goes s made (binary f a b).code (binary f a b).made
  binary_goes s made f a b h g = Join h (g a.made)

  -- ---- lazy operations

  lazily_goes : (s : ElaborationContext) (p : Place) (a b : ExprTree) (test : core.ExprTree → core.ExprTree) (made : List Ty) (first : Lifted) (second : List Ty → Lifted) → Goes s made first.code first.made → Lifts s second →
      Goes s made (lazily s.numbers p a b test first second).code (lazily s.numbers p a b test first second).made
  lazily_goes s p a b test made first second h g =
      let n = next s.numbers first.made in
      let t = in_temporary s.numbers (place_of a) ty.Bool first in
      let r = second t.made in
      let x = put (place_of a) n first.source in
      let y = put (place_of b) n r.source in
      let inner : Shape s.body.class low s.numbers.first_temporary s.exposes (suc (length first.made)) r.code (length r.made) =
      subst (λ i. Shape s.body.class low s.numbers.first_temporary s.exposes i r.code (length r.made)) (one_longer first.made ty.Bool) (g t.made) in
      let whole = Join h (Lazily p (test (core.LocalExpr p n)) x y (put_is_step (place_of a) n first.source) (put_is_step (place_of b) n r.source) (put_new (place_of a) n first.source) (put_new (place_of b) n r.source) inner) in
      subst (λ code. Shape s.body.class low s.numbers.first_temporary s.exposes (length made) code (length r.made)) (sym (append_assoc first.code (x ∷ []) (core.IfStmt p (test (core.LocalExpr p n)) (code_of (r.code ++ y ∷ [])) core.NoCode ∷ []))) whole

  negated_goes : (s : ElaborationContext) (a : ExprTree) (f : List Ty → Lifted) → Lifts s f → Lifts s (negated s.numbers a f)
  negated_goes s a f h made =
      on_either (λ (l : Lifted). Goes s made l.code l.made) (has_call a) (unary (NotExpr (place_of a)) (operand s.numbers ty.Bool a f made)) (unlifted (NotExpr (place_of a) (plain s.numbers a)) made)
      (operand_goes s ty.Bool a f h made) Nothing

  operation_goes : (s : ElaborationContext) (p : Place) (o : Operator) (a b : ExprTree) (f g : List Ty → Lifted) → Lifts s f → Lifts s g → Lifts s (operation s.numbers p o a b f g)
  operation_goes s p op.And a b f g h i made = lazily_goes s p a b holds made (lifted_of s.numbers a f made) (lifted_of s.numbers b g) (lifted_of_goes s a f h made) (lifted_of_goes s b g i)
  operation_goes s p op.Or a b f g h i made = lazily_goes s p a b (fails p) made (lifted_of s.numbers a f made) (lifted_of s.numbers b g) (lifted_of_goes s a f h made) (lifted_of_goes s b g i)
  operation_goes s p o a b f g h i made = binary_goes s made (BinaryExpr p o) (operand s.numbers any_object a f made) (operand s.numbers any_object b g) (operand_goes s any_object a f h made) (operand_goes s any_object b g i)

  implication_goes : (s : ElaborationContext) (p : Place) (a b : ExprTree) (f g : List Ty → Lifted) → Lifts s f → Lifts s g → Lifts s (implication s.numbers p a b f g)
  implication_goes s p a b f g h i made = lazily_goes s p a b (fails p) made (negated s.numbers a f made) (lifted_of s.numbers b g) (negated_goes s a f h made) (lifted_of_goes s b g i)

  -- ---- calls

  operands_go : (s : ElaborationContext) (es : Arguments) (f : List Ty → Listed) → Lists s f → Lists s (operands_of s.numbers es f)
  operands_go s es f h made = on_either (λ (l : Listed). Goes s made l.code l.made) (have_call es) (f made) (record { code = []; values = plain_arguments s.numbers es; made = made }) (h made) Nothing

  and_operands_go : (s : ElaborationContext) (made : List Ty) (v : Valued) (f : List Ty → Listed) → Goes s made v.code v.made → Lists s f → Goes s made (and_operands v f).code (and_operands v f).made
  and_operands_go s made v f h g = Join h (g v.made)

  mutual
    pub lifted_goes : (s : ElaborationContext) (e : ExprTree) → Lifts s (lifted s e)
    lifted_goes s (IffOf p a b) made = binary_goes s made (IffExpr p) (operand s.numbers any_object a (lifted s a) made) (operand s.numbers any_object b (lifted s b)) (operand_goes s any_object a (lifted s a) (lifted_goes s a) made) (operand_goes s any_object b (lifted s b) (lifted_goes s b))
    lifted_goes s (ImpliesOf p a b) made = implication_goes s p a b (lifted s a) (lifted s b) (lifted_goes s a) (lifted_goes s b) made
    lifted_goes s (BinaryOf p o a b) made = operation_goes s p o a b (lifted s a) (lifted s b) (lifted_goes s a) (lifted_goes s b) made
    lifted_goes s (IsOf p e t) made = operand_goes s any_object e (lifted s e) (lifted_goes s e) made
    lifted_goes s (AsOf p e t) made = operand_goes s any_object e (lifted s e) (lifted_goes s e) made
    lifted_goes s (NegateOf p e) made = operand_goes s any_object e (lifted s e) (lifted_goes s e) made
    lifted_goes s (NotOf p e) made = operand_goes s any_object e (lifted s e) (lifted_goes s e) made
    lifted_goes s (CastOf p t non_null e) made = operand_goes s any_object e (lifted s e) (lifted_goes s e) made
    lifted_goes s (FieldOf p e f t) made = operand_goes s any_object e (lifted s e) (lifted_goes s e) made
    lifted_goes s (ElementOf p a i) made = binary_goes s made (core.ElementExpr p) (operand s.numbers any_object a (lifted s a) made) (operand s.numbers any_object i (lifted s i)) (operand_goes s any_object a (lifted s a) (lifted_goes s a) made) (operand_goes s any_object i (lifted s i) (lifted_goes s i))
    lifted_goes s (LengthOf p e) made = operand_goes s any_object e (lifted s e) (lifted_goes s e) made
    lifted_goes s (NewOf p t es) made = operands_go s es (in_temporaries s (types_of_constructor s t) es) (in_temporaries_go s (types_of_constructor s t) es) made
    lifted_goes s (NewArrayOf p t e) made =
        operands_go s (Argument e NoMore) (λ m. and_operands (operand s.numbers any_object e (lifted s e) m) no_operands)
        (λ m. and_operands_go s m (operand s.numbers any_object e (lifted s e) m) no_operands (operand_goes s any_object e (lifted s e) (lifted_goes s e) m) (λ k. Nothing)) made
    lifted_goes s (CallOf p e m t es) made =
        operands_go s (Argument e es) (λ k. and_operands (operand s.numbers any_object e (lifted s e) k) (in_temporaries s (types_of_method s (static_class e) m) es))
        (λ k. and_operands_go s k (operand s.numbers any_object e (lifted s e) k) (in_temporaries s (types_of_method s (static_class e) m) es) (operand_goes s any_object e (lifted s e) (lifted_goes s e) k) (in_temporaries_go s (types_of_method s (static_class e) m) es)) made
    lifted_goes s (StaticOf p n t es) made = operands_go s es (in_temporaries s (types_of_written s n) es) (in_temporaries_go s (types_of_written s n) es) made
    lifted_goes s (BaseOf p m t es) made = operands_go s es (in_temporaries s (types_of_method s (above_of s.program s.body.class) m) es) (in_temporaries_go s (types_of_method s (above_of s.program s.body.class) m) es) made
    lifted_goes s e made = Nothing

    pub in_temporaries_go : (s : ElaborationContext) (ts : List Ty) (es : Arguments) → Lists s (in_temporaries s ts es)
    in_temporaries_go s ts NoMore made = Nothing
    in_temporaries_go s ts (Argument e es) made =
        and_operands_go s made (operand s.numbers (first_type ts) e (lifted s e) made) (in_temporaries s (other_types ts) es) (operand_goes s (first_type ts) e (lifted s e) (lifted_goes s e) made) (in_temporaries_go s (other_types ts) es)

  right_goes : (s : ElaborationContext) (e : ExprTree) → Lifts s (right_side s e)
  right_goes s e made = lifted_of_goes s e (lifted s e) (lifted_goes s e) made

  value_goes : (s : ElaborationContext) (e : ExprTree) → Values s (value s e)
  value_goes s e made = valued_from_goes s e made (right_side s e made) (right_side s e made).source (right_goes s e made)

  -- ---- assignments

  -- a local that the body declares, or a copy
  abbrev pub is_own : ElaborationContext → ℕ → Bool
  is_own s x = is_from low s.numbers.first_temporary x

  abbrev pub means_own : ElaborationContext → ℕ → Bool
  means_own s x = is_own s (number s.numbers x)

  into_local_goes : (s : ElaborationContext) (p : Place) (x : ℕ) (made : List Ty) (l : Lifted) → is_own s x ≡ true → Goes s made l.code l.made → Goes s made (into_local p x l).code (into_local p x l).made
  into_local_goes s p x made l own h = Join h (Step (put p x l.source) (put_is_step p x l.source) (put_target (is_own s) p x l.source own))

  write_of_goes : (s : ElaborationContext) (p : Place) (o : core.ExprTree) (f : ℕ) (d : Option DeclaredField) (v : core.ExprTree) (made : List Ty) → Goes s made (write_of p o f d v) made
  write_of_goes s p o f None v made = Nothing
  write_of_goes s p o f (Some d) v made = Step (WriteStmt p o f d.field.mark d.class v) refl refl

  write_goes : (s : ElaborationContext) (e : ExprTree) (v : core.ExprTree) (made : List Ty) → Goes s made (write s e v) made
  write_goes s (FieldOf p o f t) v made = write_of_goes s p (plain s.numbers o) f (field_at s.program f) v made
  write_goes s (ElementOf p a i) v made = Step (WriteElementStmt p (plain s.numbers a) (plain s.numbers i) v) refl refl
  write_goes s e v made = Nothing

  write_value_goes : (s : ElaborationContext) (e : ExprTree) (made : List Ty) (v : Valued) → Goes s made v.code v.made → Goes s made (write_value s e v).code (write_value s e v).made
  write_value_goes s e made v h = Join h (write_goes s e v.value v.made)

  assign_settled_goes : (s : ElaborationContext) (target e : ExprTree) → target_passes (means_own s) target ≡ true → Codes s (assign_settled s target e)
  assign_settled_goes s (LocalOf p x t) e own made = into_local_goes s p (number s.numbers x) made (right_side s e made) own (right_goes s e made)
  assign_settled_goes s target e own made = write_value_goes s target made (value s e made) (value_goes s e made)

  settle_part_goes : (s : ElaborationContext) (e : ExprTree) → Settles s (settle_part s e)
  settle_part_goes s e made =
      on_either (λ (l : Settled). Goes s made l.code l.made) (is_this e) (record { code = []; target = e; made = made }) (settle_lifted s e (right_side s e made)) Nothing
      (Join (right_goes s e made) (kept s (place_of e) (right_side s e made).made (temporary_type any_object (type_of e)) (right_side s e made).source))

  settle_goes : (s : ElaborationContext) (target : ExprTree) → Settles s (settle s target)
  settle_goes s (FieldOf p o f t) made = settle_part_goes s o made
  settle_goes s (ElementOf p a i) made = Join (settle_part_goes s a made) (settle_part_goes s i (settle_part s a made).made)
  settle_goes s target made = Nothing

  settled_passes : (s : ElaborationContext) (f : ℕ → Bool) (target : ExprTree) (made : List Ty) → target_passes f target ≡ true → target_passes f (settle s target made).target ≡ true
  settled_passes s f (FieldOf p o g t) made h = refl
  settled_passes s f (ElementOf p a i) made h = refl
  settled_passes s f target made h = h

  assign_after_goes : (s : ElaborationContext) (e : ExprTree) (made : List Ty) (t : Settled) → target_passes (means_own s) t.target ≡ true → Goes s made t.code t.made → Goes s made (assign_after s e t).code (assign_after s e t).made
  assign_after_goes s e made t own h = Join h (assign_settled_goes s t.target e own t.made)

  assign_goes : (s : ElaborationContext) (target e : ExprTree) → target_passes (means_own s) target ≡ true → Codes s (assign s target e)
  assign_goes s target e own made =
      on_either (λ (c : Coded). Goes s made c.code c.made) (has_call target || has_call e) (assign_after s e (settle s target made)) (assign_settled s target e made)
      (assign_after_goes s e made (settle s target made) (settled_passes s (means_own s) target made own) (settle_goes s target made))
      (assign_settled_goes s target e own made)

  update_goes : (s : ElaborationContext) (o : Operator) (target e : ExprTree) → target_passes (means_own s) target ≡ true → Codes s (update s o target e)
  update_goes s o target e own made =
      let t = settle s target made in
      assign_after_goes s (BinaryOf (place_of t.target) o t.target e) made t (settled_passes s (means_own s) target made own) (settle_goes s target made)

  assignment_goes : (s : ElaborationContext) (target : ExprTree) (o : AssignOperator) (e : ExprTree) → target_passes (means_own s) target ≡ true → Codes s (assignment s target o e)
  assignment_goes s target operator.Set e own made = assign_goes s target e own made
  assignment_goes s target operator.Add e own made = update_goes s op.Add target e own made
  assignment_goes s target operator.Subtract e own made = update_goes s op.Subtract target e own made
  assignment_goes s target operator.Multiply e own made = update_goes s op.Multiply target e own made

  -- ---- declarations

  declared_as_goes : (s : ElaborationContext) (d : DeclaratorTree) (e : Option ExprTree) → is_own s d.local ≡ true → Codes s (declared_as s d e)
  declared_as_goes s d None own made = Step (AssignStmt d.place d.local (default_of d.place d.ty)) refl own
  declared_as_goes s d (Some e) own made = into_local_goes s d.place d.local made (right_side s e made) own (right_goes s e made)

  declare_goes : (s : ElaborationContext) (ds : List DeclaratorTree) → declared_pass (is_own s) ds ≡ true → Codes s (declare s ds)
  declare_goes s [] own made = Nothing
  declare_goes s (d ∷ ds) own made =
      let both = and_parts (is_own s d.local) (declared_pass (is_own s) ds) own in
      Join (declared_as_goes s d d.initial both.0 made) (declare_goes s ds both.1 (declared_as s d d.initial made).made)

  -- ---- calls alone, printing and `base(..)`

  drop_result_goes : (s : ElaborationContext) (v : Source) (made : List Ty) → Goes s made (drop_result v) made
  drop_result_goes s (Pure e) made = Nothing
  drop_result_goes s (Created p t es) made = Step (NewStmt p None t es) refl refl
  drop_result_goes s (CreatedArray p t e) made = Step (NewArrayStmt p None t e) refl refl
  drop_result_goes s (Called p callee es) made = Step (CallStmt p None callee es) refl refl

  print_goes : (s : ElaborationContext) (p : Place) (e : Option ExprTree) (line : Bool) → Codes s (print s p e line)
  print_goes s p None line made = Step (PrintStmt p None line) refl refl
  print_goes s p (Some e) line made = Join (value_goes s e made) (Step (PrintStmt p (Some (value s e made).value) line) refl refl)

  ready_goes : (s : ElaborationContext) (p : Place) (t : ℕ) (made : List Ty) → Goes s made (ready_after s p t) made
  ready_goes s p t made =
      on_either (λ (c : Code). Goes s made c made) s.body.flags.delayed [] (if has_delayed_constructor s.program t then ReadyStmt p ∷ [] else []) Nothing
      (on_either (λ (c : Code). Goes s made c made) (has_delayed_constructor s.program t) (ReadyStmt p ∷ []) [] (Step (ReadyStmt p) refl refl) Nothing)

  base_goes : (s : ElaborationContext) (p : Place) (es : Arguments) (t : ℕ) → Codes s (base_of s p es t)
  base_goes s p es t made =
      let ts = param_types_in (constructor_of s.program t) in
      let l = arguments_of s ts es made in
      let call = CallStmt p None (BaseConstructor (number_of s.program (Constructor t))) l.values in
      on_either (λ (c : Coded). Goes s made c.code c.made) (t == 0) (record { code = ready_after s p t; made = made }) (base_with s p t l)
      (ready_goes s p t made)
      (Join (operands_go s es (in_temporaries s ts es) (in_temporaries_go s ts es) made) (Join (Step call refl refl) (ready_goes s p t l.made)))

  pub simple_goes : (s : ElaborationContext) (x : SimpleTree) → simple_passes (means_own s) x ≡ true → Codes s (simple s x)
  simple_goes s (AssignOf target o e) own made = assignment_goes s target o e own made
  simple_goes s (StepOf target o) own made = update_goes s (step_operator o) target (IntOf (place_of target) (pos 1)) own made
  simple_goes s (AloneOf e) own made = Join (right_goes s e made) (drop_result_goes s (right_side s e made).source (right_side s e made).made)
  simple_goes s (PrintOf p e line) own made = print_goes s p e line made
  simple_goes s (PrintTextOf p text line) own made = Step (PrintTextStmt p text line) refl refl
  simple_goes s (BaseCallOf p es) own made = base_goes s p es (above_of s.program s.body.class) made

  -- ---- loops

  loop_goes : (s : ElaborationContext) (p : Place) (is : List ExprTree) (e : Option ExprTree) (turn : List Ty → Coded) → Codes s turn → Codes s (loop_while s p is e turn)
  loop_goes s p is None turn h made = Loop p (all_plain s.numbers is) (BoolExpr p true) Nothing (h made)
  loop_goes s p is (Some e) turn h made = Loop p (all_plain s.numbers is) (value s e made).value (value_goes s e made) (h (value s e made).made)

  begin_goes : (s : ElaborationContext) (i : Option InitTree) → begin_passes (means_own s) (is_own s) i ≡ true → Codes s (begin s i)
  begin_goes s None own made = Nothing
  begin_goes s (Some (DeclareFirst ds)) own made = declare_goes s ds own made
  begin_goes s (Some (SimpleFirst x)) own made = simple_goes s x own made

  advance_goes : (s : ElaborationContext) (x : Option SimpleTree) → advance_passes (means_own s) x ≡ true → Codes s (advance s x)
  advance_goes s None own made = Nothing
  advance_goes s (Some x) own made = simple_goes s x own made

  -- ---- returns

  this_pack : (s : ElaborationContext) (p : Place) → is_this_pack s.body.class (pack_this s p) ≡ true
  this_pack s p = on_either (λ (c : Code). is_this_pack s.body.class c ≡ true) s.body.flags.ctor (PackStmt p 0 s.body.class ∷ []) [] (eq-eqb s.body.class s.body.class refl) refl

  leave_with_goes : (s : ElaborationContext) (p : Place) (made : List Ty) (v : Valued) → Goes s made v.code v.made → Goes s made (leave_with s p v).code (leave_with s p v).made
  leave_with_goes s p made v h =
      subst (λ code. Goes s made code v.made) (sym (append_assoc v.code (packs s p) (core.ReturnStmt p (Some v.value) ∷ []))) (Join h (Leave p (Some v.value) (pack_this s p) (this_pack s p)))

  leave_value_goes : (s : ElaborationContext) (p : Place) (e : ExprTree) (os : List Opened) → Codes s (leave_value s p e os)
  leave_value_goes s p e [] made = leave_with_goes s p made (value s e made) (value_goes s e made)
  leave_value_goes s p e (o ∷ os) made =
      let l = right_side s e made in
      leave_with_goes s p made (kept_result s e l) (Join (right_goes s e made) (kept s (place_of e) l.made (result_type s.body.result) l.source))

  leave_goes : (s : ElaborationContext) (p : Place) (e : Option ExprTree) → Codes s (leave s p e)
  leave_goes s p None made = Leave p None (pack_this s p) (this_pack s p)
  leave_goes s p (Some e) made = leave_value_goes s p e s.exposes made

  -- ---- exposes

  closed : (s : ElaborationContext) (made : List Ty) (o : Opened) (ends : Bool) (inside : Coded) → (close o ends inside).code ≡ inside.code ++ closing o ends
  closed s made o true inside = refl
  closed s made o false inside = sym (append-nil inside.code)

  expose_goes : (s : ElaborationContext) (p : Place) (e : ExprTree) (t : ℕ) (ends : Bool) (inner : ElaborationContext → List Ty → Coded) → ((o : Opened) → Codes (within s o) (inner (within s o))) → (made : List Ty) (l : Lifted) → Goes s made l.code l.made →
      Goes s made (expose_lifted s p e t ends inner l).code (expose_lifted s p e t ends inner l).made
  expose_goes s p e t ends inner h made l g =
      let n = next s.numbers l.made in
      let o = opened p n t in
      let kind = temporary_type any_object (type_of e) in
      let x = put (place_of e) n l.source in
      let c = inner (within s o) (l.made ++ kind ∷ []) in
      let u = core.UnpackStmt p n t in
      let block : Shape s.body.class low s.numbers.first_temporary (s.exposes ++ o ∷ []) (suc (length l.made)) c.code (length c.made) =
      subst (λ i. Shape s.body.class low s.numbers.first_temporary (s.exposes ++ o ∷ []) i c.code (length c.made)) (one_longer l.made kind) (h o (l.made ++ kind ∷ [])) in
      let whole = Join g (Expose x o ends (put_is_step (place_of e) n l.source) (put_new (place_of e) n l.source) refl block) in
      let front : ((l.code ++ x ∷ []) ++ u ∷ []) ++ (c.code ++ closing o ends) ≡ l.code ++ (x ∷ u ∷ (c.code ++ closing o ends)) =
      ap (λ z. z ++ (c.code ++ closing o ends)) (append_assoc l.code (x ∷ []) (u ∷ [])) ∙ append_assoc l.code (x ∷ u ∷ []) (c.code ++ closing o ends) in
      let code : ((l.code ++ x ∷ []) ++ u ∷ []) ++ (close o ends c).code ≡ l.code ++ (x ∷ u ∷ (c.code ++ closing o ends)) =
      ap (λ z. ((l.code ++ x ∷ []) ++ u ∷ []) ++ z) (closed s made o ends c) ∙ front in
      subst (λ z. Shape s.body.class low s.numbers.first_temporary s.exposes (length made) z (length (close o ends c).made)) (sym code)
      (subst (λ z. Shape s.body.class low s.numbers.first_temporary s.exposes (length made) (l.code ++ (x ∷ u ∷ (c.code ++ closing o ends))) (length z)) (sym (closed_made o ends c)) whole)

  -- ---- statements

  nothing_goes : (s : ElaborationContext) → Codes s nothing
  nothing_goes s made = Nothing

  then_goes : (s : ElaborationContext) (made : List Ty) (c : Coded) (b : Bool) (f : List Ty → Coded) → Goes s made c.code c.made → Codes s f → Goes s made (then_code c (if b then f else nothing)).code (then_code c (if b then f else nothing)).made
  then_goes s made c b f h g = Join h (on_either (λ (f : List Ty → Coded). Codes s f) b f nothing g (nothing_goes s) c.made)

  mutual
    pub stmt_goes : (s : ElaborationContext) (x : StmtTree) → stmt_passes (means_own s) (is_own s) x ≡ true → Codes s (stmt s x)
    stmt_goes s (InBlock b) own made = block_goes s b own made
    stmt_goes s (DeclareOf ds) own made = declare_goes s ds own made
    stmt_goes s (SimpleOf x) own made = simple_goes s x own made
    stmt_goes s (IfOf p e a) own made =
        let v = value s e made in
        Join (value_goes s e made) (Branch p v.value (stmt_goes s a own v.made) Nothing)
    stmt_goes s (IfElseOf p e a b) own made =
        let v = value s e made in
        let both = and_parts (stmt_passes (means_own s) (is_own s) a) (stmt_passes (means_own s) (is_own s) b) own in
        Join (value_goes s e made) (Branch p v.value (stmt_goes s a both.0 v.made) (stmt_goes s b both.1 (stmt s a v.made).made))
    stmt_goes s (WhileOf p e is a) own made = loop_goes s p is (Some e) (stmt s a) (stmt_goes s a own) made
    stmt_goes s (ForOf p i e x is a) own made =
        let both = and_parts (begin_passes (means_own s) (is_own s) i) (advance_passes (means_own s) x && stmt_passes (means_own s) (is_own s) a) own in
        let rest = and_parts (advance_passes (means_own s) x) (stmt_passes (means_own s) (is_own s) a) both.1 in
        let turn = λ (m : List Ty). then_code (stmt s a m) (if can_end a then advance s x else nothing) in
        Join (begin_goes s i both.0 made) (loop_goes s p is e turn (λ m. then_goes s m (stmt s a m) (can_end a) (advance s x) (stmt_goes s a rest.1 m) (advance_goes s x rest.0)) (begin s i made).made)
    stmt_goes s (ReturnOf p e) own made = leave_goes s p e made
    stmt_goes s (AssertOf p e) own made = Step (AssertStmt p (plain s.numbers e)) refl refl
    stmt_goes s (AssumeOf p e) own made = Step (AssumeStmt p (plain s.numbers e)) refl refl
    stmt_goes s (ExposeOf p e t b) own made = expose_goes s p e (exposed_class e t) (block_can_end b) (λ z m. block z b m) (λ o. block_goes (within s o) b own) made (right_side s e made) (right_goes s e made)
    stmt_goes s (EmptyOf p) own made = Nothing

    pub block_goes : (s : ElaborationContext) (b : BlockTree) → block_passes (means_own s) (is_own s) b ≡ true → Codes s (block s b)
    block_goes s (BlockOf p ss end) own made = stmts_go s ss own made

    pub stmts_go : (s : ElaborationContext) (ss : StmtTrees) → all_pass (means_own s) (is_own s) ss ≡ true → Codes s (stmts s ss)
    stmts_go s typed.NoMore own made = Nothing
    stmts_go s (Before x xs) own made =
        let both = and_parts (stmt_passes (means_own s) (is_own s) x) (all_pass (means_own s) (is_own s) xs) own in
        then_goes s made (stmt s x made) (can_end x) (stmts s xs) (stmt_goes s x both.0 made) (stmts_go s xs both.1)
