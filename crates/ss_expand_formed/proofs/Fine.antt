-- Statements in which `this` isn't used but for its fields.
use Rattle.std.proofs.Common.{◌≡◌, ℕ, zero, suc, ◌+◌, ◌<◌, List, [], ◌∷◌, ◌++◌, Bool, true, false, Option, Some, None, refl, sym, ◌∙◌, ap, arith, inl, inr, ◌⊎◌, ⊎_elim}
use Rattle.std.specs.Prelude.{slice_get, unwrap_or, if◌then◌else◌}
use Rattle.std.proofs.lemmas.Bool.{cases_Bool, and_from, or_left, or_right, false≢true}
use Rattle.ss_core.specs.declared.names.Place.{Place}
use Rattle.ss_core.specs.declared.names.Mark.{Mark}
use Rattle.ss_core.specs.Tree as core
use Rattle.ss_core.specs.Tree.{BoolExpr, WriteStmt, WriteElementStmt, PrintStmt, PrintTextStmt, LoopStmt, UnpackStmt, PackStmt, AssertStmt, AssumeStmt, ReturnStmt, ExposedTree, CodeTree}
use Rattle.ss_ast.specs.declared.stmt.AssignOperator.{AssignOperator}
use Rattle.ss_ast.specs.declared.stmt.AssignOperator.TheVariants as operator
use Rattle.ss_typed.specs.Tree.{ExprTree, IntOf, BoolOf, NullOf, ThisOf, LocalOf, ResultOf, BoundOf, IffOf, ImpliesOf, BinaryOf, IsOf, AsOf, NegateOf, NotOf, CastOf, FieldOf, ElementOf, LengthOf, OldOf, QuantifiedOf, StateOf, OwnersOf, NewOf, NewArrayOf, CallOf, StaticOf, BaseOf, Arguments, NoMore, Argument, DeclaratorTree, SimpleTree, AssignOf, StepOf, AloneOf, PrintOf, PrintTextOf, BaseCallOf, InitTree, DeclareFirst, SimpleFirst, BlockTree, BlockOf, StmtTree, InBlock, DeclareOf, SimpleOf, IfOf, IfElseOf, WhileOf, ForOf, ReturnOf, AssertOf, AssumeOf, ExposeOf, EmptyOf, StmtTrees, Before, ParamTree, BodyTree}
use Rattle.ss_typed.specs.Tree as typed
use Rattle.ss_delayed_rules.specs.Escapes.{Use, ForFields, NotAtAll, uses, uses_each, uses_in_all, uses_if, uses_left, uses_declared, uses_done, uses_first, uses_step, uses_at, uses_in, uses_along}
use Rattle.ss_expand_rules.specs.Numbers.{Numbers, number}
use Rattle.ss_typed.specs.Shapes.{is_this}
use Rattle.ss_expand_rules.specs.Contracts.{first_param}
use Rattle.ss_expand_rules.specs.Bodies.{block_assigns, meant_from, first_copy, meant, numbers}
use Rattle.ss_store_rules.specs.Admissible as store
use Rattle.ss_store_rules.specs.Construction.{keeps_this_in}
use Rattle.ss_expand_formed.proofs.Facts.{none_left}
use Rattle.ss_expand_formed.proofs.Choices.{where_chosen}
use Rattle.ss_expand_formed.proofs.Simple.{Left, Assigning, PrintsOnly, InSimple, InDeclared, KeepsSimple}
use Rattle.ss_expand_formed.proofs.ConstructionStatements.{AllOf, AtFirst, AtStep, At, InAll, Along, KeepsStatements}
use Rattle.ss_expand_formed.proofs.Uses.{is_other, other, IsAfterThis, Fine, AreFine, fine, two_fine, own_or_fine, stays, default_stays, behaves}
use Rattle.ss_expand_formed.proofs.ReadLocals.{Other, OtherSimple}

-- ---- `this` at all, and but for its fields

mutual
  pub less : (e : ExprTree) → uses NotAtAll e ≡ [] → uses ForFields e ≡ []
  less (IffOf p a b) h = let u = none_left (uses NotAtAll a) (uses NotAtAll b) h in rw (less a u.0, less b u.1) refl
  less (ImpliesOf p a b) h = let u = none_left (uses NotAtAll a) (uses NotAtAll b) h in rw (less a u.0, less b u.1) refl
  less (BinaryOf p o a b) h = let u = none_left (uses NotAtAll a) (uses NotAtAll b) h in rw (less a u.0, less b u.1) refl
  less (ElementOf p a b) h = let u = none_left (uses NotAtAll a) (uses NotAtAll b) h in rw (less a u.0, less b u.1) refl
  less (OwnersOf p w a b) h = let u = none_left (uses NotAtAll a) (uses NotAtAll b) h in rw (less a u.0, less b u.1) refl
  less (IsOf p e t) h = less e h
  less (AsOf p e t) h = less e h
  less (NegateOf p e) h = less e h
  less (NotOf p e) h = less e h
  less (CastOf p t non_null e) h = less e h
  less (LengthOf p e) h = less e h
  less (OldOf p e) h = less e h
  less (StateOf p w e) h = less e h
  less (NewArrayOf p t e) h = less e h
  less (FieldOf p e f t) h = where_chosen (λ (ps : List Place). ps ≡ []) (is_this e) [] (uses ForFields e) (λ yes. refl) (λ no. less e h)
  less (QuantifiedOf p q name low high e) h =
      let u = none_left (uses NotAtAll low ++ uses NotAtAll high) (uses NotAtAll e) h in
      let v = none_left (uses NotAtAll low) (uses NotAtAll high) u.0 in
      rw (less low v.0, less high v.1, less e u.1) refl
  less (NewOf p t es) h = each_less es h
  less (CallOf p e m t es) h = let u = none_left (uses NotAtAll e) (uses_each NotAtAll es) h in rw (less e u.0, each_less es u.1) refl
  less (StaticOf p n t es) h = each_less es h
  less (BaseOf p m t es) h = absurd (let z : ⊥ = cc in z)
  less (ThisOf p t) h = absurd (let z : ⊥ = cc in z)
  less (IntOf p k) h = refl
  less (BoolOf p b) h = refl
  less (NullOf p) h = refl
  less (LocalOf p x t) h = refl
  less (ResultOf p t) h = refl
  less (BoundOf p k) h = refl

  each_less : (es : Arguments) → uses_each NotAtAll es ≡ [] → uses_each ForFields es ≡ []
  each_less NoMore h = refl
  each_less (Argument e es) h = let u = none_left (uses NotAtAll e) (uses_each NotAtAll es) h in rw (less e u.0, each_less es u.1) refl

-- ---- simple statements

abbrev pub FineSimple : Use → SimpleTree → Type 0
FineSimple u x = InSimple (Fine u) (AreFine u) x

past : (b : Bool) (ps : List Place) → b ≡ false → (if b then [] else ps) ≡ [] → ps ≡ []
past true ps e h = absurd (false≢true (sym e))
past false ps e h = h

module _ (u : Use) where
  left_of : (l : ExprTree) → Fine u l → Left (Fine u) l
  left_of (FieldOf p o f t) h = ⊎_elim (λ own. inl own.1) inr (own_or_fine u p o f t h)
  left_of (ElementOf p a i) h = two_fine u a i h.unused h.locals
  left_of l h = tt

  left_fine : (l : ExprTree) → uses_left u l ≡ [] → Other l → Left (Fine u) l
  left_fine (FieldOf p o f t) h g =
      ⊎_elim
      (λ yes. inl yes)
      (λ no. left_of (FieldOf p o f t) (fine u (FieldOf p o f t) (past (is_this o) (uses u (FieldOf p o f t)) no h) g))
      (cases_Bool (is_this o))
  left_fine (ElementOf p a i) h g = two_fine u a i h g
  left_fine l h g = tt

  assigning_fine : (o : AssignOperator) (l e : ExprTree) → uses_done u (AssignOf l o e) ≡ [] → Other l → Other e → Assigning (Fine u) o l e
  assigning_fine operator.Set l e h f g = let n = none_left (uses_left u l) (uses u e) h in (left_fine l n.0 f, fine u e n.1 g)
  assigning_fine operator.Add l e h f g = let n = none_left (uses u l) (uses u e) h in let m = fine u l n.0 f in (left_of l m, m, fine u e n.1 g)
  assigning_fine operator.Subtract l e h f g = let n = none_left (uses u l) (uses u e) h in let m = fine u l n.0 f in (left_of l m, m, fine u e n.1 g)
  assigning_fine operator.Multiply l e h f g = let n = none_left (uses u l) (uses u e) h in let m = fine u l n.0 f in (left_of l m, m, fine u e n.1 g)

  if_fine : (e : Option ExprTree) → uses_if u e ≡ [] → PrintsOnly Other e → PrintsOnly (Fine u) e
  if_fine None h g = tt
  if_fine (Some e) h g = fine u e h g

  simple_fine : (x : SimpleTree) → uses_done u x ≡ [] → OtherSimple x → FineSimple u x
  simple_fine (AssignOf l o e) h g = assigning_fine o l e h g.0 g.1
  simple_fine (StepOf l o) h g = let m = fine u l h g in (left_of l m, m)
  simple_fine (AloneOf e) h g = fine u e h g
  simple_fine (PrintOf p e line) h g = if_fine e h g
  simple_fine (PrintTextOf p t line) h g = tt
  simple_fine (BaseCallOf p es) h g = record { unused = h; locals = g }

  declared_fine : (ds : List DeclaratorTree) → uses_declared u ds ≡ [] → InDeclared Other ds → InDeclared (Fine u) ds
  declared_fine [] h g = tt
  declared_fine (d ∷ ds) h g = let n = none_left (uses_if u d.initial) (uses_declared u ds) h in (if_fine d.initial n.0 g.0, declared_fine ds n.1 g.1)

  all_fine : (es : List ExprTree) → uses_in_all u es ≡ [] → AllOf Other es → AllOf (Fine u) es
  all_fine [] h g = tt
  all_fine (e ∷ es) h g = let n = none_left (uses u e) (uses_in_all u es) h in (fine u e n.0 g.0, all_fine es n.1 g.1)

  first_fine : (i : Option InitTree) → uses_first u i ≡ [] → AtFirst OtherSimple Other i → AtFirst (FineSimple u) (Fine u) i
  first_fine None h g = tt
  first_fine (Some (DeclareFirst ds)) h g = declared_fine ds h g
  first_fine (Some (SimpleFirst x)) h g = simple_fine x h g

  step_fine : (x : Option SimpleTree) → uses_step u x ≡ [] → AtStep OtherSimple x → AtStep (FineSimple u) x
  step_fine None h g = tt
  step_fine (Some x) h g = simple_fine x h g

  mutual
    pub stmt_fine : (x : StmtTree) → uses_at u x ≡ [] → At OtherSimple Other x → At (FineSimple u) (Fine u) x
    stmt_fine (InBlock b) h g = block_fine b h g
    stmt_fine (DeclareOf ds) h g = declared_fine ds h g
    stmt_fine (SimpleOf x) h g = simple_fine x h g
    stmt_fine (IfOf p e a) h g = let n = none_left (uses u e) (uses_at u a) h in (fine u e n.0 g.0, stmt_fine a n.1 g.1)
    stmt_fine (IfElseOf p e a b) h g =
        let n = none_left (uses u e ++ uses_at u a) (uses_at u b) h in
        let m = none_left (uses u e) (uses_at u a) n.0 in
        (fine u e m.0 g.0, stmt_fine a m.1 g.1, stmt_fine b n.1 g.2)
    stmt_fine (WhileOf p e is a) h g =
        let n = none_left (uses u e ++ uses_in_all u is) (uses_at u a) h in
        let m = none_left (uses u e) (uses_in_all u is) n.0 in
        (fine u e m.0 g.0, all_fine is m.1 g.1, stmt_fine a n.1 g.2)
    stmt_fine (ForOf p i e x is a) h g =
        let n = none_left (uses_first u i ++ uses_if u e ++ uses_step u x ++ uses_in_all u is) (uses_at u a) h in
        let m = none_left (uses_first u i ++ uses_if u e ++ uses_step u x) (uses_in_all u is) n.0 in
        let l = none_left (uses_first u i ++ uses_if u e) (uses_step u x) m.0 in
        let k = none_left (uses_first u i) (uses_if u e) l.0 in
        (first_fine i k.0 g.0, if_fine e k.1 g.1, step_fine x l.1 g.2, all_fine is m.1 g.3, stmt_fine a n.1 g.4)
    stmt_fine (ReturnOf p e) h g = if_fine e h g
    stmt_fine (AssertOf p e) h g = fine u e h g
    stmt_fine (AssumeOf p e) h g = fine u e h g
    stmt_fine (ExposeOf p e t b) h g = let n = none_left (uses u e) (uses_in u b) h in (fine u e n.0 g.0, block_fine b n.1 g.1)
    stmt_fine (EmptyOf p) h g = tt

    pub block_fine : (b : BlockTree) → uses_in u b ≡ [] → InAll OtherSimple Other b → InAll (FineSimple u) (Fine u) b
    block_fine (BlockOf p ss end) h g = stmts_fine ss h g

    pub stmts_fine : (ss : StmtTrees) → uses_along u ss ≡ [] → Along OtherSimple Other ss → Along (FineSimple u) (Fine u) ss
    stmts_fine typed.StmtTrees.NoMore h g = tt
    stmts_fine (Before x xs) h g = let n = none_left (uses_at u x) (uses_along u xs) h in (stmt_fine x n.0 g.0, stmts_fine xs n.1 g.1)

-- ---- tests of a delayed constructor

module _ (ns : Numbers) (n : IsAfterThis ns) (t : ℕ) where
  number_of : (k : ℕ) → is_other (ns.first_temporary + k) ≡ true
  number_of k = let l = n.temporaries in other (ns.first_temporary + k) (omega arith)

  write_keeps : (p : Place) (o : core.ExprTree) (f : ℕ) (m : Mark) (k : ℕ) (e : core.ExprTree) → (store.is_this o ≡ true) ⊎ (stays ForFields o ≡ true) → stays ForFields e ≡ true → keeps_this_in (WriteStmt p o f m k e) ≡ true
  write_keeps p o f m k e h g = and_from _ _ (⊎_elim (λ own. or_left (store.is_this o) _ own) (λ part. or_right (store.is_this o) _ part) h) g

  pub simple_keeps : KeepsSimple ns (Fine ForFields) (stays ForFields) (behaves ForFields t)
  simple_keeps = record {
    field_fine = λ p f u q k v. record { unused = refl; locals = number_of k };
    local_fine = λ q k v. record { unused = refl; locals = number_of k };
    element_fine = λ p a i h g. record { unused = rw (h.unused, g.unused) refl; locals = and_from _ _ h.locals g.locals };
    binary_fine = λ p o a b h g. record { unused = rw (h.unused, g.unused) refl; locals = and_from _ _ h.locals g.locals };
    number_fine = λ p k. record { unused = refl; locals = refl };
    default_passes = default_stays ForFields;
    write_passes = write_keeps;
    element_passes = λ p a i e h g j. and_from _ _ (and_from _ _ h (and_from _ _ g (and_from _ _ j refl))) refl;
    print_passes = λ p e line h. and_from _ _ (and_from _ _ h refl) refl;
    line_passes = λ p line. refl;
    text_passes = λ p text line. refl;
  }

  pub statements_keep : KeepsStatements ns (stays ForFields) (behaves ForFields t)
  statements_keep = record {
    true_passes = λ p. refl;
    loop_passes = λ p is prelude e turn xs h g. and_from _ _ h (and_from _ _ g refl);
    unpack_passes = λ p k u. number_of k;
    pack_passes = λ p k u. refl;
    this_passes = λ p u. refl;
    assert_passes = λ p e h. and_from _ _ (and_from _ _ h refl) refl;
    assume_passes = λ p e h. and_from _ _ (and_from _ _ h refl) refl;
    return_passes = λ p e h. and_from _ _ (and_from _ _ h refl) refl;
    end_passes = λ p. refl;
  }

-- ---- the numbers of a constructor

meant_other : (block : BlockTree) (copy x : ℕ) (qs : List ParamTree) (i y : ℕ) → 0 < copy → 0 < x → slice_get (meant_from block copy x qs) i ≡ Some y → 0 < y
meant_other block copy x [] i y l m h = absurd (let z : ⊥ = cc in z)
meant_other block copy x (q ∷ qs) i y l m h =
    ⊎_elim
    (λ yes. front copy (meant_from block (copy + 1) (x + 1) qs) i l (λ j e. meant_other block (copy + 1) (x + 1) qs j y (omega arith) (omega arith) e) (rw yes at h))
    (λ no. front x (meant_from block copy (x + 1) qs) i m (λ j e. meant_other block copy (x + 1) qs j y l (omega arith) e) (rw no at h))
    (cases_Bool (block_assigns x block))
  where
    front : (z : ℕ) (ms : List ℕ) (j : ℕ) → 0 < z → ((k : ℕ) → slice_get ms k ≡ Some y → 0 < y) → slice_get (z ∷ ms) j ≡ Some y → 0 < y
    front z ms zero low rest e = let same : z ≡ y = cc in omega arith
    front z ms (suc j) low rest e = rest j e

means_other : (b : BodyTree) → b.flags.is_static ≡ false → (n x : ℕ) → is_other x ≡ true → is_other (number (numbers b n) x) ≡ true
means_other b static n zero h = absurd (false≢true h)
means_other b static n (suc i) h =
    let one : first_param b ≡ 1 = rw static refl in
    let ms = meant_from b.block (first_copy b) (first_param b) b.params in
    let looked : slice_get (meant b) (suc i) ≡ slice_get ms i = rw static refl in
    ap (λ o. is_other (unwrap_or o (suc i))) looked ∙ by (slice_get ms i) (λ y e. meant_other b.block (first_copy b) (first_param b) b.params i y (omega arith) (omega arith) e)
  where
    by : (o : Option ℕ) → ((y : ℕ) → o ≡ Some y → 0 < y) → is_other (unwrap_or o (suc i)) ≡ true
    by None low = other (suc i) (omega arith)
    by (Some y) low = other y (low y refl)

pub after_this : (b : BodyTree) → b.flags.is_static ≡ false → (n : ℕ) → IsAfterThis (numbers b n)
after_this b static n =
    let one : first_param b ≡ 1 = rw static refl in
    record { means = means_other b static n; outcome = omega arith; bound = omega arith; temporaries = omega arith }
