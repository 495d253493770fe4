-- What holds of the code of an assignment, of a declaration and of what else is simple.
use Rattle.std.proofs.Common.{◌≡◌, ℕ, ◌+◌, List, [], ◌∷◌, length, Bool, true, false, Option, Some, None, refl, inl, inr, ◌⊎◌, ⊎_elim}
use Rattle.std.specs.Prelude.{◌||◌, ◌==◌, if◌then◌else◌, pos}
use Rattle.std.specs.List.{list_all}
use Rattle.std.proofs.lemmas.Bool.{and_from}
use Rattle.ss_core.specs.declared.names.Place.{Place}
use Rattle.ss_core.specs.declared.names.Mark.{Mark}
use Rattle.ss_core.specs.declared.names.Ty.{Ty}
use Rattle.ss_core.specs.declared.expr.Operator.{Operator}
use Rattle.ss_core.specs.declared.expr.Operator.TheVariants as op
use Rattle.ss_ast.specs.declared.stmt.AssignOperator.{AssignOperator}
use Rattle.ss_ast.specs.declared.stmt.AssignOperator.TheVariants as operator
use Rattle.ss_core.specs.Tree as core
use Rattle.ss_core.specs.Tree.{LocalExpr, WriteStmt, WriteElementStmt, AssignStmt, NewStmt, NewArrayStmt, CallStmt, BaseConstructor, ReadyStmt, PrintStmt, PrintTextStmt}
use Rattle.ss_core.specs.Chain.{DeclaredField}
use Rattle.ss_typed.specs.Tree.{ExprTree, ThisOf, IntOf, LocalOf, FieldOf, ElementOf, BinaryOf, Arguments, DeclaratorTree, SimpleTree, AssignOf, StepOf, AloneOf, PrintOf, PrintTextOf, BaseCallOf}
use Rattle.ss_typed.specs.Types.{type_of}
use Rattle.ss_expand_rules.specs.Numbers.{Numbers, number, plain}
use Rattle.ss_expand_rules.specs.Calls.{has_call}
use Rattle.ss_typed.specs.Shapes.{is_this, place_of}
use Rattle.ss_expand_rules.specs.Program.{field_at, above_of, Constructor, number_of}
use Rattle.ss_typed.specs.Lookups.{constructor_of, param_types_in}
use Rattle.ss_expand_rules.specs.Lifting.{ElaborationContext, Source, Pure, Created, CreatedArray, Called, put, Lifted, next, temporary_type, any_object, right_side, value, arguments_of}
use Rattle.ss_expand_rules.specs.Code.{Coded}
use Rattle.ss_expand_rules.specs.Simple.{into_local, write_of, write, assign_settled, Settled, settle_lifted, settle_part, settle, assign_after, assign, update, assignment, step_operator, default_of, declared_as, declare, drop_result, alone, print, has_delayed_constructor, ready_after, base_with, base_of, simple}
use Rattle.ss_store_rules.specs.Admissible as store
use Rattle.ss_expand_formed.proofs.Shape.{Code, each-append}
use Rattle.ss_expand_formed.proofs.Choices.{where_chosen}
use Rattle.ss_expand_formed.proofs.Lifts.{Keeps, Runs, Fit, FitLift, put_fits, right_fits, value_fits, arguments_fit}

-- a left side: a field of `this`, or one whose parts have the property
abbrev pub Left : (ExprTree → Type 0) → ExprTree → Type 0
Left F (FieldOf p o f t) = (is_this o ≡ true) ⊎ F o
Left F (ElementOf p a i) = F a × F i
Left F e = Unit {0}

-- what a statement is assigned by one operator, and what is read where it is by another
abbrev pub Assigning : (ExprTree → Type 0) → AssignOperator → ExprTree → ExprTree → Type 0
Assigning F operator.Set l e = Left F l × F e
Assigning F o l e = Left F l × F l × F e

abbrev pub PrintsOnly : (ExprTree → Type 0) → Option ExprTree → Type 0
PrintsOnly F None = Unit {0}
PrintsOnly F (Some e) = F e

-- each expression of the statement has the property, and of the arguments of a `base(..)` the other one holds
abbrev pub InSimple : (ExprTree → Type 0) → (Arguments → Type 0) → SimpleTree → Type 0
InSimple F B (AssignOf l o e) = Assigning F o l e
InSimple F B (StepOf l o) = Left F l × F l
InSimple F B (AloneOf e) = F e
InSimple F B (PrintOf p e line) = PrintsOnly F e
InSimple F B (PrintTextOf p text line) = Unit {0}
InSimple F B (BaseCallOf p es) = B es

abbrev pub InDeclared : (ExprTree → Type 0) → List DeclaratorTree → Type 0
InDeclared F [] = Unit {0}
InDeclared F (d ∷ ds) = PrintsOnly F d.initial × InDeclared F ds

-- what else is asked of the property and of the tests, beside what expressions ask
pub record KeepsSimple (ns : Numbers) (F : ExprTree → Type 0) (P : core.ExprTree → Bool) (test : core.StmtTree → Bool) : Type 0 where
  pub field_fine : (p : Place) (f : ℕ) (t : Ty) (q : Place) (n : ℕ) (u : Ty) → F (FieldOf p (LocalOf q (ns.first_temporary + n) u) f t)
  pub local_fine : (q : Place) (n : ℕ) (u : Ty) → F (LocalOf q (ns.first_temporary + n) u)
  pub element_fine : (p : Place) (a i : ExprTree) → F a → F i → F (ElementOf p a i)
  pub binary_fine : (p : Place) (o : Operator) (a b : ExprTree) → F a → F b → F (BinaryOf p o a b)
  pub number_fine : (p : Place) (n : ℕ) → F (IntOf p (pos n))
  pub default_passes : (p : Place) (t : Ty) → P (default_of p t) ≡ true
  pub write_passes : (p : Place) (o : core.ExprTree) (f : ℕ) (m : Mark) (t : ℕ) (e : core.ExprTree) → (store.is_this o ≡ true) ⊎ (P o ≡ true) → P e ≡ true → test (WriteStmt p o f m t e) ≡ true
  pub element_passes : (p : Place) (a i e : core.ExprTree) → P a ≡ true → P i ≡ true → P e ≡ true → test (WriteElementStmt p a i e) ≡ true
  pub print_passes : (p : Place) (e : core.ExprTree) (line : Bool) → P e ≡ true → test (PrintStmt p (Some e) line) ≡ true
  pub line_passes : (p : Place) (line : Bool) → test (PrintStmt p None line) ≡ true
  pub text_passes : (p : Place) (text : List ℕ) (line : Bool) → test (PrintTextStmt p text line) ≡ true

module _ (F : ExprTree → Type 0) (A : Arguments → Type 0) (P : core.ExprTree → Bool) (test : core.StmtTree → Bool) (s : ElaborationContext) (k : Keeps s.numbers F A P test) (w : KeepsSimple s.numbers F P test) where
  abbrev Passing : Code → Type 0
  Passing code = Runs F A P test code

  abbrev plainly : ExprTree → core.ExprTree
  plainly e = plain s.numbers e

  this_is : (e : ExprTree) → is_this e ≡ true → store.is_this (plainly e) ≡ true
  this_is (ThisOf p t) h = refl
  this_is e h = absurd (let z : ⊥ = cc in z)

  -- ---- writes

  write_of_runs : (p : Place) (o : core.ExprTree) (f : ℕ) (d : Option DeclaredField) (v : core.ExprTree) → (store.is_this o ≡ true) ⊎ (P o ≡ true) → P v ≡ true → Passing (write_of p o f d v)
  write_of_runs p o f None v h g = refl
  write_of_runs p o f (Some d) v h g = and_from _ _ (w.write_passes p o f d.field.mark d.class v h g) refl

  write_runs : (l : ExprTree) (v : core.ExprTree) → Left F l → P v ≡ true → Passing (write s l v)
  write_runs (FieldOf p o f t) v h g = write_of_runs p (plainly o) f (field_at s.program f) v (⊎_elim (λ this. inl (this_is o this)) (λ fine. inr (k.plain_passes o fine)) h) g
  write_runs (ElementOf p a i) v h g = and_from _ _ (w.element_passes p (plainly a) (plainly i) v (k.plain_passes a h.0) (k.plain_passes i h.1) g) refl
  write_runs l v h g = refl

  into_local_runs : (p : Place) (x : ℕ) (l : Lifted) → FitLift F A P test l → Passing (into_local p x l).code
  into_local_runs p x l h = each-append test l.code (put p x l.source ∷ []) h.0 (put_fits F A P test s k p x l.source h.1)

  settled_runs : (l e : ExprTree) (made : List Ty) → Left F l → F e → Passing (assign_settled s l e made).code
  settled_runs (LocalOf p x t) e made h g = into_local_runs p (number s.numbers x) (right_side s e made) (right_fits F A P test s k e made g)
  settled_runs l e made h g =
      let v = value s e made in
      let fit = value_fits F A P test s k e made g in
      each-append test v.code (write s l v.value) fit.0 (write_runs l v.value h fit.1)

  -- ---- left sides

  part_runs : (e : ExprTree) (made : List Ty) → (is_this e ≡ true) ⊎ F e → Passing (settle_part s e made).code
  part_runs e made h =
      where_chosen (λ (x : Settled). Passing x.code) (is_this e) (record { code = []; target = e; made = made }) (settle_lifted s e (right_side s e made)) (λ yes. refl)
      (λ no. let fine = fine_of e no h in into_local_runs (place_of e) (next s.numbers (right_side s e made).made) (right_side s e made) (right_fits F A P test s k e made fine))
    where
      fine_of : (e : ExprTree) → is_this e ≡ false → (is_this e ≡ true) ⊎ F e → F e
      fine_of e other h = ⊎_elim (λ yes. absurd (let z : ⊥ = cc in z)) (λ fine. fine) h

  part_fine : (e : ExprTree) (made : List Ty) → F e → F (settle_part s e made).target
  part_fine e made h =
      where_chosen (λ (x : Settled). F x.target) (is_this e) (record { code = []; target = e; made = made }) (settle_lifted s e (right_side s e made)) (λ yes. h)
      (λ no. w.local_fine (place_of e) (length (right_side s e made).made) (temporary_type any_object (type_of e)))

  part_left : (e : ExprTree) (made : List Ty) → (is_this e ≡ true) ⊎ F e → (is_this (settle_part s e made).target ≡ true) ⊎ F (settle_part s e made).target
  part_left e made h =
      where_chosen (λ (x : Settled). (is_this x.target ≡ true) ⊎ F x.target) (is_this e) (record { code = []; target = e; made = made }) (settle_lifted s e (right_side s e made)) (λ yes. inl yes)
      (λ no. inr (w.local_fine (place_of e) (length (right_side s e made).made) (temporary_type any_object (type_of e))))

  settle_runs : (l : ExprTree) (made : List Ty) → Left F l → Passing (settle s l made).code
  settle_runs (FieldOf p o f t) made h = part_runs o made h
  settle_runs (ElementOf p a i) made h = each-append test (settle_part s a made).code (settle_part s i (settle_part s a made).made).code (part_runs a made (inr h.0)) (part_runs i (settle_part s a made).made (inr h.1))
  settle_runs l made h = refl

  settle_left : (l : ExprTree) (made : List Ty) → Left F l → Left F (settle s l made).target
  settle_left (FieldOf p o f t) made h = part_left o made h
  settle_left (ElementOf p a i) made h = (part_fine a made h.0, part_fine i (settle_part s a made).made h.1)
  settle_left l made h = h

  field_fine : (p : Place) (o : ExprTree) (f : ℕ) (t : Ty) (made : List Ty) → F (FieldOf p o f t) → F (FieldOf p (settle_part s o made).target f t)
  field_fine p o f t made h =
      where_chosen (λ (x : Settled). F (FieldOf p x.target f t)) (is_this o) (record { code = []; target = o; made = made }) (settle_lifted s o (right_side s o made)) (λ yes. h)
      (λ no. w.field_fine p f t (place_of o) (length (right_side s o made).made) (temporary_type any_object (type_of o)))

  settle_fine : (l : ExprTree) (made : List Ty) → Left F l → F l → F (settle s l made).target
  settle_fine (FieldOf p o f t) made h g = field_fine p o f t made g
  settle_fine (ElementOf p a i) made h g = w.element_fine p _ _ (part_fine a made h.0) (part_fine i (settle_part s a made).made h.1)
  settle_fine l made h g = g

  -- ---- assignments

  after_runs : (e : ExprTree) (t : Settled) → Passing t.code → Left F t.target → F e → Passing (assign_after s e t).code
  after_runs e t h g fine = each-append test t.code (assign_settled s t.target e t.made).code h (settled_runs t.target e t.made g fine)

  assign_runs : (l e : ExprTree) (made : List Ty) → Left F l → F e → Passing (assign s l e made).code
  assign_runs l e made h g =
      where_chosen (λ (c : Coded). Passing c.code) (has_call l || has_call e) (assign_after s e (settle s l made)) (assign_settled s l e made)
      (λ yes. after_runs e (settle s l made) (settle_runs l made h) (settle_left l made h) g)
      (λ no. settled_runs l e made h g)

  update_runs : (o : Operator) (l e : ExprTree) (made : List Ty) → Left F l → F l → F e → Passing (update s o l e made).code
  update_runs o l e made h g i =
      let t = settle s l made in
      after_runs (BinaryOf (place_of t.target) o t.target e) t (settle_runs l made h) (settle_left l made h) (w.binary_fine (place_of t.target) o t.target e (settle_fine l made h g) i)

  assignment_runs : (l : ExprTree) (o : AssignOperator) (e : ExprTree) (made : List Ty) → Assigning F o l e → Passing (assignment s l o e made).code
  assignment_runs l operator.Set e made h = assign_runs l e made h.0 h.1
  assignment_runs l operator.Add e made h = update_runs op.Add l e made h.0 h.1 h.2
  assignment_runs l operator.Subtract e made h = update_runs op.Subtract l e made h.0 h.1 h.2
  assignment_runs l operator.Multiply e made h = update_runs op.Multiply l e made h.0 h.1 h.2

  -- ---- declarations

  declared_runs : (d : DeclaratorTree) (e : Option ExprTree) (made : List Ty) → PrintsOnly F e → Passing (declared_as s d e made).code
  declared_runs d None made h = and_from _ _ (k.assign_passes d.place d.local (default_of d.place d.ty) (w.default_passes d.place d.ty)) refl
  declared_runs d (Some e) made h = into_local_runs d.place d.local (right_side s e made) (right_fits F A P test s k e made h)

  pub declare_runs : (ds : List DeclaratorTree) (made : List Ty) → InDeclared F ds → Passing (declare s ds made).code
  declare_runs [] made h = refl
  declare_runs (d ∷ ds) made h =
      let one = declared_as s d d.initial made in
      each-append test one.code (declare s ds one.made).code (declared_runs d d.initial made h.0) (declare_runs ds one.made h.1)

  -- ---- calls alone and printing

  drop_runs : (v : Source) → Fit F A P test v → Passing (drop_result v)
  drop_runs (Pure e) h = refl
  drop_runs (Created p t es) h = and_from _ _ (k.new_passes p None t es h) refl
  drop_runs (CreatedArray p t e) h = and_from _ _ (k.array_passes p None t e h) refl
  drop_runs (Called p callee es) h = and_from _ _ (h None) refl

  alone_runs : (l : Lifted) → FitLift F A P test l → Passing (alone l).code
  alone_runs l h = each-append test l.code (drop_result l.source) h.0 (drop_runs l.source h.1)

  print_runs : (p : Place) (e : Option ExprTree) (line : Bool) (made : List Ty) → PrintsOnly F e → Passing (print s p e line made).code
  print_runs p None line made h = and_from _ _ (w.line_passes p line) refl
  print_runs p (Some e) line made h =
      let v = value s e made in
      let fit = value_fits F A P test s k e made h in
      each-append test v.code (PrintStmt p (Some v.value) line ∷ []) fit.0 (and_from _ _ (w.print_passes p v.value line fit.1) refl)

  -- ---- `base(..)`

  pub ready_runs : (p : Place) (t : ℕ) → test (ReadyStmt p) ≡ true → Passing (ready_after s p t)
  ready_runs p t h =
      where_chosen Passing s.body.flags.delayed [] (if has_delayed_constructor s.program t then ReadyStmt p ∷ [] else []) (λ yes. refl)
      (λ no. where_chosen Passing (has_delayed_constructor s.program t) (ReadyStmt p ∷ []) [] (λ yes. and_from _ _ h refl) (λ other. refl))

  pub base_runs : (p : Place) (es : Arguments) (t : ℕ) (made : List Ty) → test (ReadyStmt p) ≡ true → ((n : ℕ) (vs : List core.ExprTree) → list_all P vs ≡ true → test (CallStmt p None (BaseConstructor n) vs) ≡ true) → A es → Passing (base_of s p es t made).code
  base_runs p es t made ready call h =
      let l = arguments_of s (param_types_in (constructor_of s.program t)) es made in
      let fit = arguments_fit F A P test s k (param_types_in (constructor_of s.program t)) es made h in
      where_chosen (λ (c : Coded). Passing c.code) (t == 0) (record { code = ready_after s p t; made = made }) (base_with s p t l)
      (λ yes. ready_runs p t ready)
      (λ no. each-append test l.code (CallStmt p None (BaseConstructor (number_of s.program (Constructor t))) l.values ∷ ready_after s p t) fit.0 (and_from _ _ (call (number_of s.program (Constructor t)) l.values fit.1) (ready_runs p t ready)))

  pub simple_runs : (B : Arguments → Type 0) → ((p : Place) (es : Arguments) (made : List Ty) → B es → Passing (base_of s p es (above_of s.program s.body.class) made).code) → (x : SimpleTree) (made : List Ty) → InSimple F B x → Passing (simple s x made).code
  simple_runs B base (AssignOf l o e) made h = assignment_runs l o e made h
  simple_runs B base (StepOf l o) made h = update_runs (step_operator o) l (IntOf (place_of l) (pos 1)) made h.0 h.1 (w.number_fine (place_of l) 1)
  simple_runs B base (AloneOf e) made h = alone_runs (right_side s e made) (right_fits F A P test s k e made h)
  simple_runs B base (PrintOf p e line) made h = print_runs p e line made h
  simple_runs B base (PrintTextOf p text line) made h = and_from _ _ (w.text_passes p text line) refl
  simple_runs B base (BaseCallOf p es) made h = base p es made h
