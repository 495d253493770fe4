-- Elaborated code doesn't assign a local that the statement neither assigns nor declares.
use Rattle.std.proofs.Common.{◌≡◌, ℕ, ◌<◌, List, [], ◌∷◌, ◌++◌, length, map, Bool, true, false, Option, Some, None, refl, arith}
use Rattle.std.specs.Prelude.{not, ◌==◌, ◌&&◌, ◌||◌, if◌then◌else◌, reverse, nat_le, pos}
use Rattle.std.proofs.lemmas.Bool.{and_parts, and_from, ne_eqb, false≢true}
use Rattle.ss_core.specs.declared.names.Place.{Place}
use Rattle.ss_core.specs.declared.names.Ty.{Ty}
use Rattle.ss_core.specs.declared.expr.Operator.{Operator}
use Rattle.ss_core.specs.declared.expr.Operator.TheVariants as op
use Rattle.ss_core.specs.Tree as core
use Rattle.ss_core.specs.Tree.{BaseConstructor}
use Rattle.ss_core.specs.View.{code_of}
use Rattle.ss_core.specs.Chain.{DeclaredField}
use Rattle.ss_ast.specs.declared.stmt.AssignOperator.{AssignOperator}
use Rattle.ss_ast.specs.declared.stmt.AssignOperator.TheVariants as operator
use Rattle.ss_typed.specs.Tree.{ExprTree, IntOf, LocalOf, FieldOf, ElementOf, BinaryOf, Arguments, DeclaratorTree, SimpleTree, AssignOf, StepOf, AloneOf, PrintOf, PrintTextOf, BaseCallOf, InitTree, DeclareFirst, SimpleFirst, BlockTree, BlockOf, StmtTree, InBlock, DeclareOf, SimpleOf, IfOf, IfElseOf, WhileOf, ForOf, ReturnOf, AssertOf, AssumeOf, ExposeOf, EmptyOf, StmtTrees, Before}
use Rattle.ss_typed.specs.Tree as typed
use Rattle.ss_typed.specs.Types.{type_of}
use Rattle.ss_expand_rules.specs.Numbers.{number, plain, plain_arguments}
use Rattle.ss_expand_rules.specs.Calls.{has_call, have_call}
use Rattle.ss_typed.specs.Shapes.{is_this, place_of}
use Rattle.ss_expand_rules.specs.Program.{field_at, above_of}
use Rattle.ss_typed.specs.Lookups.{constructor_of, param_types_in}
use Rattle.ss_expand_rules.specs.Code.{Coded, nothing, then_code}
use Rattle.ss_expand_rules.specs.Lifting.{Opened, ElaborationContext, Source, Pure, Created, CreatedArray, Called, put, Lifted, Valued, Listed, unlifted, next, temporary_type, any_object, valued_from, lifted, in_temporaries, right_side, value, arguments_of}
use Rattle.ss_expand_rules.specs.Simple.{write_of, write, assign_settled, Settled, settle_lifted, settle_part, settle, assign_after, assign, update, assignment, step_operator, declared_as, declare, drop_result, print, has_delayed_constructor, ready_after, base_with, base_of, simple}
use Rattle.ss_expand_rules.specs.Ends.{can_end, block_can_end}
use Rattle.ss_expand_rules.specs.Statements.{loop_while, begin, advance, pack_of, packs, leave_with, kept_result, leave_value, leave, exposed_class, within, close, opened, expose_lifted, stmt, block, stmts}
use Rattle.ss_store_rules.specs.Locals.{each, targets_only}
use Rattle.ss_expand_formed.proofs.Choosing.{on_either}
use Rattle.ss_expand_formed.proofs.Shape.{Code, each-append}
use Rattle.ss_expand_formed.proofs.Shaped.{lifted_goes, in_temporaries_go}
use Rattle.ss_expand_formed.proofs.Targets.{target_passes, simple_passes, declared_pass, begin_passes, advance_passes, stmt_passes, block_passes, all_pass}
use Rattle.ss_expand_formed.proofs.Kept.{spares}
use Rattle.ss_expand_formed.proofs.New.{each_more, spared, too_low, assigns_new}

module _ (y : ℕ) where
  abbrev pub Spares : Code → Type 0
  Spares xs = each (spares y) (code_of xs) ≡ true

  join : (xs ys : Code) → Spares xs → Spares ys → Spares (xs ++ ys)
  join xs ys h g = each-append (spares y) xs ys h g

  put_spares : (p : Place) (x : ℕ) (d : Source) → (x == y) ≡ false → Spares (put p x d ∷ [])
  put_spares p x (Pure e) h = rw h refl
  put_spares p x (Created q t es) h = rw h refl
  put_spares p x (CreatedArray q t e) h = rw h refl
  put_spares p x (Called q callee es) h = rw h refl

  -- ---- expressions

  module _ (s : ElaborationContext) (low : y < s.numbers.first_temporary) where
    next_other : (made : List Ty) → (next s.numbers made == y) ≡ false
    next_other made = ne_eqb (next s.numbers made) y (λ e. omega arith)

    new_spares : (xs : Code) → each (targets_only (nat_le s.numbers.first_temporary)) (code_of xs) ≡ true → Spares xs
    new_spares xs h = each_more (targets_only (nat_le s.numbers.first_temporary)) (spares y) (spared (nat_le s.numbers.first_temporary) y (too_low s.numbers.first_temporary y low)) (code_of xs) h

    lifted_spares : (e : ExprTree) (made : List Ty) → Spares (lifted s e made).code
    lifted_spares e made =
        let first = s.numbers.first_temporary in
        let d = lifted s e made in
        new_spares d.code (assigns_new s.body.class first first s.exposes (length made) d.code (length d.made) (omega arith) (lifted_goes first s e made))

    in_temporaries_spares : (ts : List Ty) (es : Arguments) (made : List Ty) → Spares (in_temporaries s ts es made).code
    in_temporaries_spares ts es made =
        let first = s.numbers.first_temporary in
        let d = in_temporaries s ts es made in
        new_spares d.code (assigns_new s.body.class first first s.exposes (length made) d.code (length d.made) (omega arith) (in_temporaries_go first s ts es made))

    right_spares : (e : ExprTree) (made : List Ty) → Spares (right_side s e made).code
    right_spares e made = on_either (λ (l : Lifted). Spares l.code) (has_call e) (lifted s e made) (unlifted (plain s.numbers e) made) (lifted_spares e made) refl

    valued_from_spares : (e : ExprTree) (l : Lifted) (d : Source) → Spares l.code → Spares (valued_from s.numbers e l d).code
    valued_from_spares e l (Pure v) h = h
    valued_from_spares e l (Created p t es) h = join l.code _ h (put_spares (place_of e) (next s.numbers l.made) l.source (next_other l.made))
    valued_from_spares e l (CreatedArray p t n) h = join l.code _ h (put_spares (place_of e) (next s.numbers l.made) l.source (next_other l.made))
    valued_from_spares e l (Called p callee es) h = join l.code _ h (put_spares (place_of e) (next s.numbers l.made) l.source (next_other l.made))

    value_spares : (e : ExprTree) (made : List Ty) → Spares (value s e made).code
    value_spares e made = valued_from_spares e (right_side s e made) (right_side s e made).source (right_spares e made)

    arguments_spares : (ts : List Ty) (es : Arguments) (made : List Ty) → Spares (arguments_of s ts es made).code
    arguments_spares ts es made = on_either (λ (l : Listed). Spares l.code) (have_call es) (in_temporaries s ts es made) (record { code = []; values = plain_arguments s.numbers es; made = made }) (in_temporaries_spares ts es made) refl

    -- ---- simple statements

    abbrev pub other : ℕ → Bool
    other x = not (x == y)

    abbrev pub means_other : ℕ → Bool
    means_other x = not (number s.numbers x == y)

    is_other : (x : ℕ) → other x ≡ true → (x == y) ≡ false
    is_other x h = by (x == y) h
      where
        by : (b : Bool) → not b ≡ true → b ≡ false
        by true h = absurd (false≢true h)
        by false h = refl

    into_spares : (p : Place) (x : ℕ) (l : Lifted) → other x ≡ true → Spares l.code → Spares (l.code ++ put p x l.source ∷ [])
    into_spares p x l h g = join l.code _ g (put_spares p x l.source (is_other x h))

    write_of_spares : (p : Place) (o : core.ExprTree) (f : ℕ) (d : Option DeclaredField) (v : core.ExprTree) → Spares (write_of p o f d v)
    write_of_spares p o f None v = refl
    write_of_spares p o f (Some d) v = refl

    write_spares : (e : ExprTree) (v : core.ExprTree) → Spares (write s e v)
    write_spares (FieldOf p o f t) v = write_of_spares p (plain s.numbers o) f (field_at s.program f) v
    write_spares (ElementOf p a i) v = refl
    write_spares e v = refl

    written_spares : (target e : ExprTree) (made : List Ty) → Spares ((value s e made).code ++ write s target (value s e made).value)
    written_spares target e made = join (value s e made).code _ (value_spares e made) (write_spares target (value s e made).value)

    settled_spares : (target e : ExprTree) (made : List Ty) → target_passes means_other target ≡ true → Spares (assign_settled s target e made).code
    settled_spares (LocalOf p x t) e made h = into_spares p (number s.numbers x) (right_side s e made) h (right_spares e made)
    settled_spares target e made h = written_spares target e made

    part_spares : (e : ExprTree) (made : List Ty) → Spares (settle_part s e made).code
    part_spares e made =
        let l = right_side s e made in
        on_either (λ (x : Settled). Spares x.code) (is_this e) (record { code = []; target = e; made = made }) (settle_lifted s e l) refl (join l.code _ (right_spares e made) (put_spares (place_of e) (next s.numbers l.made) l.source (next_other l.made)))

    settle_spares : (target : ExprTree) (made : List Ty) → Spares (settle s target made).code
    settle_spares (FieldOf p o f t) made = part_spares o made
    settle_spares (ElementOf p a i) made = join (settle_part s a made).code _ (part_spares a made) (part_spares i (settle_part s a made).made)
    settle_spares target made = refl

    settled_passes : (f : ℕ → Bool) (target : ExprTree) (made : List Ty) → target_passes f target ≡ true → target_passes f (settle s target made).target ≡ true
    settled_passes f (FieldOf p o g t) made h = refl
    settled_passes f (ElementOf p a i) made h = refl
    settled_passes f target made h = h

    after_spares : (e : ExprTree) (t : Settled) → target_passes means_other t.target ≡ true → Spares t.code → Spares (assign_after s e t).code
    after_spares e t h g = join t.code _ g (settled_spares t.target e t.made h)

    assign_spares : (target e : ExprTree) (made : List Ty) → target_passes means_other target ≡ true → Spares (assign s target e made).code
    assign_spares target e made h =
        on_either (λ (c : Coded). Spares c.code) (has_call target || has_call e) (assign_after s e (settle s target made)) (assign_settled s target e made)
        (after_spares e (settle s target made) (settled_passes means_other target made h) (settle_spares target made)) (settled_spares target e made h)

    update_spares : (o : Operator) (target e : ExprTree) (made : List Ty) → target_passes means_other target ≡ true → Spares (update s o target e made).code
    update_spares o target e made h =
        let t = settle s target made in
        after_spares (BinaryOf (place_of t.target) o t.target e) t (settled_passes means_other target made h) (settle_spares target made)

    assignment_spares : (target : ExprTree) (o : AssignOperator) (e : ExprTree) (made : List Ty) → target_passes means_other target ≡ true → Spares (assignment s target o e made).code
    assignment_spares target operator.Set e made h = assign_spares target e made h
    assignment_spares target operator.Add e made h = update_spares op.Add target e made h
    assignment_spares target operator.Subtract e made h = update_spares op.Subtract target e made h
    assignment_spares target operator.Multiply e made h = update_spares op.Multiply target e made h

    declared_spares : (d : DeclaratorTree) (e : Option ExprTree) (made : List Ty) → other d.local ≡ true → Spares (declared_as s d e made).code
    declared_spares d None made h = and_from _ _ h refl
    declared_spares d (Some e) made h = into_spares d.place d.local (right_side s e made) h (right_spares e made)

    declare_spares : (ds : List DeclaratorTree) (made : List Ty) → declared_pass other ds ≡ true → Spares (declare s ds made).code
    declare_spares [] made h = refl
    declare_spares (d ∷ ds) made h =
        let both = and_parts (other d.local) (declared_pass other ds) h in
        join (declared_as s d d.initial made).code _ (declared_spares d d.initial made both.0) (declare_spares ds (declared_as s d d.initial made).made both.1)

    drop_spares : (d : Source) → Spares (drop_result d)
    drop_spares (Pure e) = refl
    drop_spares (Created p t es) = refl
    drop_spares (CreatedArray p t e) = refl
    drop_spares (Called p callee es) = refl

    print_spares : (p : Place) (e : Option ExprTree) (line : Bool) (made : List Ty) → Spares (print s p e line made).code
    print_spares p None line made = refl
    print_spares p (Some e) line made = join (value s e made).code _ (value_spares e made) refl

    ready_spares : (p : Place) (t : ℕ) → Spares (ready_after s p t)
    ready_spares p t =
        on_either (λ (c : Code). Spares c) s.body.flags.delayed [] (if has_delayed_constructor s.program t then core.ReadyStmt p ∷ [] else []) refl
        (on_either (λ (c : Code). Spares c) (has_delayed_constructor s.program t) (core.ReadyStmt p ∷ []) [] refl refl)

    base_spares : (p : Place) (es : Arguments) (t : ℕ) (made : List Ty) → Spares (base_of s p es t made).code
    base_spares p es t made =
        let ts = param_types_in (constructor_of s.program t) in
        let l = arguments_of s ts es made in
        on_either (λ (c : Coded). Spares c.code) (t == 0) (record { code = ready_after s p t; made = made }) (base_with s p t l)
        (ready_spares p t) (join l.code _ (arguments_spares ts es made) (and_from _ _ refl (ready_spares p t)))

    simple_spares : (x : SimpleTree) (made : List Ty) → simple_passes means_other x ≡ true → Spares (simple s x made).code
    simple_spares (AssignOf target o e) made h = assignment_spares target o e made h
    simple_spares (StepOf target o) made h = update_spares (step_operator o) target (IntOf (place_of target) (pos 1)) made h
    simple_spares (AloneOf e) made h = join (right_side s e made).code _ (right_spares e made) (drop_spares (right_side s e made).source)
    simple_spares (PrintOf p e line) made h = print_spares p e line made
    simple_spares (PrintTextOf p text line) made h = refl
    simple_spares (BaseCallOf p es) made h = base_spares p es (above_of s.program s.body.class) made

    -- ---- statements

    pub begin_spares : (i : Option InitTree) (made : List Ty) → begin_passes means_other other i ≡ true → Spares (begin s i made).code
    begin_spares None made h = refl
    begin_spares (Some (DeclareFirst ds)) made h = declare_spares ds made h
    begin_spares (Some (SimpleFirst x)) made h = simple_spares x made h

    pub advance_spares : (x : Option SimpleTree) (made : List Ty) → advance_passes means_other x ≡ true → Spares (advance s x made).code
    advance_spares None made h = refl
    advance_spares (Some x) made h = simple_spares x made h

    pub loop_spares : (p : Place) (is : List ExprTree) (e : Option ExprTree) (turn : List Ty → Coded) → ((made : List Ty) → Spares (turn made).code) → (made : List Ty) → Spares (loop_while s p is e turn made).code
    loop_spares p is None turn h made = and_from _ _ (h made) refl
    loop_spares p is (Some e) turn h made = and_from _ _ (and_from _ _ (value_spares e made) (h (value s e made).made)) refl

    packs_spare : (os : List Opened) → Spares (map pack_of os)
    packs_spare [] = refl
    packs_spare (o ∷ os) = packs_spare os

    all_packs_spare : (p : Place) → Spares (packs s p)
    all_packs_spare p =
        join (map pack_of (reverse s.exposes)) _ (packs_spare (reverse s.exposes)) (on_either (λ (c : Code). Spares c) s.body.flags.ctor (core.PackStmt p 0 s.body.class ∷ []) [] refl refl)

    leave_with_spares : (p : Place) (v : Valued) → Spares v.code → Spares (leave_with s p v).code
    leave_with_spares p v h = join (v.code ++ packs s p) _ (join v.code _ h (all_packs_spare p)) refl

    leave_value_spares : (p : Place) (e : ExprTree) (os : List Opened) (made : List Ty) → Spares (leave_value s p e os made).code
    leave_value_spares p e [] made = leave_with_spares p (value s e made) (value_spares e made)
    leave_value_spares p e (o ∷ os) made =
        let l = right_side s e made in
        leave_with_spares p (kept_result s e l) (join l.code _ (right_spares e made) (put_spares (place_of e) (next s.numbers l.made) l.source (next_other l.made)))

    leave_spares : (p : Place) (e : Option ExprTree) (made : List Ty) → Spares (leave s p e made).code
    leave_spares p None made = join (packs s p) _ (all_packs_spare p) refl
    leave_spares p (Some e) made = leave_value_spares p e s.exposes made

    close_spares : (o : Opened) (ends : Bool) (inside : Coded) → Spares inside.code → Spares (close o ends inside).code
    close_spares o false inside h = h
    close_spares o true inside h = join inside.code _ h refl

    expose_spares : (p : Place) (e : ExprTree) (t : ℕ) (ends : Bool) (inner : ElaborationContext → List Ty → Coded) (l : Lifted) → Spares l.code → ((o : Opened) (made : List Ty) → Spares (inner (within s o) made).code) → Spares (expose_lifted s p e t ends inner l).code
    expose_spares p e t ends inner l h g =
        let n = next s.numbers l.made in
        let o = opened p n t in
        let made = l.made ++ temporary_type any_object (type_of e) ∷ [] in
        join ((l.code ++ put (place_of e) n l.source ∷ []) ++ core.UnpackStmt p n t ∷ []) _ (join (l.code ++ put (place_of e) n l.source ∷ []) _ (join l.code _ h (put_spares (place_of e) n l.source (next_other l.made))) refl)
        (close_spares o ends (inner (within s o) made) (g o made))

    pub then_spares : (c : Coded) (b : Bool) (f : List Ty → Coded) → Spares c.code → ((made : List Ty) → Spares (f made).code) → Spares (then_code c (if b then f else nothing)).code
    then_spares c b f h g = join c.code _ h (on_either (λ (f : List Ty → Coded). Spares (f c.made).code) b f nothing (g c.made) refl)

  mutual
    pub stmt_spares : (s : ElaborationContext) (low : y < s.numbers.first_temporary) (x : StmtTree) (made : List Ty) → stmt_passes (means_other s low) (other s low) x ≡ true → Spares (stmt s x made).code
    stmt_spares s low (InBlock b) made h = block_spares s low b made h
    stmt_spares s low (DeclareOf ds) made h = declare_spares s low ds made h
    stmt_spares s low (SimpleOf x) made h = simple_spares s low x made h
    stmt_spares s low (IfOf p e a) made h = let v = value s e made in join v.code _ (value_spares s low e made) (and_from _ _ (and_from _ _ (stmt_spares s low a v.made h) refl) refl)
    stmt_spares s low (IfElseOf p e a b) made h =
        let v = value s e made in
        let both = and_parts (stmt_passes (means_other s low) (other s low) a) (stmt_passes (means_other s low) (other s low) b) h in
        join v.code _ (value_spares s low e made) (and_from _ _ (and_from _ _ (stmt_spares s low a v.made both.0) (stmt_spares s low b (stmt s a v.made).made both.1)) refl)
    stmt_spares s low (WhileOf p e is a) made h = loop_spares s low p is (Some e) (stmt s a) (λ m. stmt_spares s low a m h) made
    stmt_spares s low (ForOf p i e x is a) made h =
        let both = and_parts (begin_passes (means_other s low) (other s low) i) (advance_passes (means_other s low) x && stmt_passes (means_other s low) (other s low) a) h in
        let rest = and_parts (advance_passes (means_other s low) x) (stmt_passes (means_other s low) (other s low) a) both.1 in
        let turn = λ (m : List Ty). then_code (stmt s a m) (if can_end a then advance s x else nothing) in
        join (begin s i made).code _ (begin_spares s low i made both.0)
        (loop_spares s low p is e turn (λ m. then_spares s low (stmt s a m) (can_end a) (advance s x) (stmt_spares s low a m rest.1) (λ n. advance_spares s low x n rest.0)) (begin s i made).made)
    stmt_spares s low (ReturnOf p e) made h = leave_spares s low p e made
    stmt_spares s low (AssertOf p e) made h = refl
    stmt_spares s low (AssumeOf p e) made h = refl
    stmt_spares s low (ExposeOf p e t b) made h = expose_spares s low p e (exposed_class e t) (block_can_end b) (λ z m. block z b m) (right_side s e made) (right_spares s low e made) (λ o m. block_spares (within s o) low b m h)
    stmt_spares s low (EmptyOf p) made h = refl

    block_spares : (s : ElaborationContext) (low : y < s.numbers.first_temporary) (b : BlockTree) (made : List Ty) → block_passes (means_other s low) (other s low) b ≡ true → Spares (block s b made).code
    block_spares s low (BlockOf p ss end) made h = stmts_spare s low ss made h

    stmts_spare : (s : ElaborationContext) (low : y < s.numbers.first_temporary) (ss : StmtTrees) (made : List Ty) → all_pass (means_other s low) (other s low) ss ≡ true → Spares (stmts s ss made).code
    stmts_spare s low typed.NoMore made h = refl
    stmts_spare s low (Before x xs) made h =
        let both = and_parts (stmt_passes (means_other s low) (other s low) x) (all_pass (means_other s low) (other s low) xs) h in
        then_spares s low (stmt s x made) (can_end x) (stmts s xs) (stmt_spares s low x made both.0) (λ m. stmts_spare s low xs m both.1)
