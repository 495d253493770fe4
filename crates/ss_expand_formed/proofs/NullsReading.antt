-- The statements of a delayed constructor, which uses its `this` for fields alone, fit where that has the fields of its class and those above.
use Rattle.std.proofs.Common.{◌≡◌, ℕ, List, [], ◌∷◌, ◌++◌, Bool, true, false, Option, Some, None, refl, ⊎_elim}
use Rattle.std.specs.Prelude.{not, ◌==◌, ◌&&◌, ◌||◌, is_some, if◌then◌else◌}
use Rattle.std.proofs.lemmas.Bool.{and_parts, and_from, cases_Bool}
use Rattle.ss_core.specs.declared.names.Place.{Place}
use Rattle.ss_core.specs.declared.names.Ty.{Ty}
use Rattle.ss_core.specs.Tree as core
use Rattle.ss_ast.specs.declared.stmt.AssignOperator.{AssignOperator}
use Rattle.ss_ast.specs.declared.stmt.AssignOperator.TheVariants as operator
use Rattle.ss_typed.specs.Tree.{ExprTree, FieldOf, DeclaratorTree, SimpleTree, AssignOf, StepOf, AloneOf, PrintOf, PrintTextOf, BaseCallOf, InitTree, DeclareFirst, SimpleFirst, BlockTree, BlockOf, StmtTree, InBlock, DeclareOf, SimpleOf, IfOf, IfElseOf, WhileOf, ForOf, ReturnOf, AssertOf, AssumeOf, ExposeOf, EmptyOf, StmtTrees, Before, BodyTree, TypedTree}
use Rattle.ss_typed.specs.Tree as typed
use Rattle.ss_typed.specs.Types.{type_of}
use Rattle.ss_paths.specs.Fields as fields
use Rattle.ss_typed.specs.Shapes.{is_this}
use Rattle.ss_nonnull_rules.specs.NonNull as source
use Rattle.ss_delayed_rules.specs.Escapes.{ForFields, uses, uses_in_all, uses_if, uses_left, uses_declared, uses_done, uses_first, uses_step, uses_at, uses_in, uses_along}
use Rattle.ss_expand_rules.specs.Program.{above_of}
use Rattle.ss_typed.specs.Lookups.{constructor_of, param_types_in}
use Rattle.ss_expand_rules.specs.Numbers.{number}
use Rattle.ss_expand_rules.specs.Statements.{result_type}
use Rattle.ss_store_rules.specs.Changes.{field_type}
use Rattle.ss_store_rules.specs.Good.{is_non_null}
use Rattle.ss_store_rules.specs.NonNull.{is_non_null_type}
use Rattle.ss_expand_formed.proofs.Facts.{none_left}
use Rattle.ss_expand_formed.proofs.Simple.{PrintsOnly, InDeclared}
use Rattle.ss_expand_formed.proofs.ConstructionStatements.{AtFirst, AtStep, At, InAll, Along}
use Rattle.ss_expand_formed.proofs.Uses.{fine}
use Rattle.ss_expand_formed.proofs.ReadLocals.{Other, OtherSimple}
use Rattle.ss_expand_formed.proofs.Fit.{Context, Fit}
use Rattle.ss_expand_formed.proofs.Fits.{FitSimple, FitDeclared, FitFirst, FitStep, FitReturn, FitStmt, FitBlock, FitAll, FitValue, FitPrinted, FitTest, WhereGiven}
use Rattle.ss_expand_formed.specs.Fitting.{Frame, implied, local_type, reads_set, fits, is_reference_type, target_fits, is_number, assigned_fits, may_fit, simple_fits, begins_fitting, declarator_fits, declared_fit, begin_fits, advance_fits, returned_fits, stmt_fits, block_fits, all_fitting}
use Rattle.ss_expand_formed.proofs.Refit.{free, held, Owns, read_own, refit, refit_base}

past : (b : Bool) (ps : List Place) → b ≡ false → (if b then [] else ps) ≡ [] → ps ≡ []
past true ps e h = absurd (let z : ⊥ = cc in z)
past false ps e h = h

module _ (c : core.CoreTree) (p : TypedTree) (b : BodyTree) (bs : List BodyTree) (own : ℕ → Bool) (static : b.flags.is_static ≡ false) (C : List core.ClassTree) (x : Context) (constructs : Bool) (first : ℕ) (owns : Owns c p b bs own static ForFields C x) where
  abbrev z : Frame
  z = free c p b bs own static ForFields C x

  abbrev w : Frame
  w = held c p b bs own static ForFields C x

  abbrev FitIn : ExprTree → Type 0
  FitIn e = Fit p C x 0 e

  again : (e : ExprTree) → uses ForFields e ≡ [] → Other e → FitIn e → fits z e ≡ true → fits w e ≡ true
  again e h g f i = refit c p b bs own static ForFields C x owns e (fine ForFields e h g) (λ m. f) i

  -- a left side; of `this` a field alone
  left_again : (l : ExprTree) → uses_left ForFields l ≡ [] → Other l → FitIn l → fits z l ≡ true → fits w l ≡ true
  left_again (FieldOf q o f t) h g fit i =
      ⊎_elim
      (λ yes.
      let kind = and_parts (implied (fields.is_non_null t) (is_non_null (field_type c.classes f))) (reads_set z o f && fits z o) i in
      let reads = and_parts (reads_set z o f) (fits z o) kind.1 in
      and_from _ _ kind.0 (read_own c p b bs own static ForFields C x owns q o f t refl yes (λ m. fit) reads.1))
      (λ no. again (FieldOf q o f t) (past (is_this o) (uses ForFields (FieldOf q o f t)) no h) g fit i)
      (cases_Bool (is_this o))
  left_again l h g fit i = again l h g fit i

  -- ---- simple statements

  assign_again : (l : ExprTree) (o : AssignOperator) (e : ExprTree) → (fits z l ≡ true → fits w l ≡ true) → (fits z e ≡ true → fits w e ≡ true) → simple_fits z (AssignOf l o e) ≡ true → simple_fits w (AssignOf l o e) ≡ true
  assign_again l o e left right h =
      let one = and_parts (target_fits z l && fits z l && fits z e && is_some (type_of e)) (assigned_fits z l o e) h in
      let two = and_parts (target_fits z l && fits z l && fits z e) (is_some (type_of e)) one.0 in
      let three = and_parts (target_fits z l && fits z l) (fits z e) two.0 in
      let four = and_parts (target_fits z l) (fits z l) three.0 in
      and_from _ _ (and_from _ _ (and_from _ _ (and_from _ _ four.0 (left four.1)) (right three.1)) two.1) one.1

  update_again : (l e : ExprTree) (o : AssignOperator) → uses ForFields l ++ uses ForFields e ≡ [] → Other l → Other e → FitIn l → FitIn e → simple_fits z (AssignOf l o e) ≡ true → simple_fits w (AssignOf l o e) ≡ true
  update_again l e o h g k f i fit = let n = none_left (uses ForFields l) (uses ForFields e) h in assign_again l o e (again l n.0 g f) (again e n.1 k i) fit

  printed_again : (e : Option ExprTree) → uses_if ForFields e ≡ [] → PrintsOnly Other e → WhereGiven p C x constructs first (FitPrinted p C x constructs first) e → may_fit z e ≡ true → may_fit w e ≡ true
  printed_again None h g f i = refl
  printed_again (Some e) h g f i = again e h g f.0.0 i

  simple_again : (s : SimpleTree) → uses_done ForFields s ≡ [] → OtherSimple s → FitSimple p C x constructs first s → simple_fits z s ≡ true → simple_fits w s ≡ true
  simple_again (AssignOf l operator.Set e) h g f i = let n = none_left (uses_left ForFields l) (uses ForFields e) h in assign_again l operator.Set e (left_again l n.0 g.0 f.0.0) (again e n.1 g.1 f.1.0) i
  simple_again (AssignOf l operator.Add e) h g f i = update_again l e operator.Add h g.0 g.1 f.0.0 f.1.0 i
  simple_again (AssignOf l operator.Subtract e) h g f i = update_again l e operator.Subtract h g.0 g.1 f.0.0 f.1.0 i
  simple_again (AssignOf l operator.Multiply e) h g f i = update_again l e operator.Multiply h g.0 g.1 f.0.0 f.1.0 i
  simple_again (StepOf l o) h g f i =
      let one = and_parts (target_fits z l && fits z l) (is_number z l) i in
      let two = and_parts (target_fits z l) (fits z l) one.0 in
      and_from _ _ (and_from _ _ two.0 (again l h g f.0.0 two.1)) one.1
  simple_again (AloneOf e) h g f i = again e h g f.0 i
  simple_again (PrintOf q e line) h g f i = printed_again e h g f i
  simple_again (PrintTextOf q text line) h g f i = refl
  simple_again (BaseCallOf q es) h g f i = refit_base c p b bs own static ForFields C x owns es (record { unused = h; locals = g }) (λ m. (param_types_in (constructor_of p (above_of p x.class)), f.1.0)) i

  -- ---- declarations

  begun_again : (y : ℕ) (t : Ty) (e : Option ExprTree) → uses_if ForFields e ≡ [] → PrintsOnly Other e → WhereGiven p C x constructs first (FitValue p C x constructs first t) e → begins_fitting z y e ≡ true → begins_fitting w y e ≡ true
  begun_again y t None h g f i = refl
  begun_again y t (Some e) h g f i =
      let one = and_parts (fits z e && is_some (type_of e)) (z.mine y || not (is_reference_type (type_of e))) i in
      let two = and_parts (fits z e) (is_some (type_of e)) one.0 in
      and_from _ _ (and_from _ _ (again e h g f.0.0 two.0) two.1) one.1

  declared_again : (ds : List DeclaratorTree) → uses_declared ForFields ds ≡ [] → InDeclared Other ds → FitDeclared p C x constructs first ds → declared_fit z ds ≡ true → declared_fit w ds ≡ true
  declared_again [] h g f i = refl
  declared_again (d ∷ ds) h g f i =
      let n = none_left (uses_if ForFields d.initial) (uses_declared ForFields ds) h in
      let both = and_parts (declarator_fits z d) (declared_fit z ds) i in
      let one = and_parts (z.locals d.local && number z.numbers d.local == d.local && implied (is_non_null_type (local_type z d.local)) (fields.is_non_null d.ty)) (begins_fitting z d.local d.initial) both.0 in
      and_from _ _ (and_from _ _ one.0 (begun_again d.local d.ty d.initial n.0 g.0 f.0.3 one.1)) (declared_again ds n.1 g.1 f.1 both.1)

  first_again : (j : Option InitTree) → uses_first ForFields j ≡ [] → AtFirst OtherSimple Other j → FitFirst p C x constructs first j → begin_fits z j ≡ true → begin_fits w j ≡ true
  first_again None h g f i = refl
  first_again (Some (DeclareFirst ds)) h g f i = declared_again ds h g f i
  first_again (Some (SimpleFirst s)) h g f i = simple_again s h g f i

  test_again : (e : Option ExprTree) → uses_if ForFields e ≡ [] → PrintsOnly Other e → WhereGiven p C x constructs first (FitTest p C x constructs first) e → may_fit z e ≡ true → may_fit w e ≡ true
  test_again None h g f i = refl
  test_again (Some e) h g f i = again e h g f.0.0 i

  step_again : (s : Option SimpleTree) → uses_step ForFields s ≡ [] → AtStep OtherSimple s → FitStep p C x constructs first s → advance_fits z s ≡ true → advance_fits w s ≡ true
  step_again None h g f i = refl
  step_again (Some s) h g f i = simple_again s h g f i

  -- ---- statements

  in_return : (r : Option Ty) (e : ExprTree) → FitReturn p C x constructs first r (Some e) → FitIn e
  in_return None e f = absurd f
  in_return (Some t) e f = f.0.0

  returned_again : (e : Option ExprTree) → uses_if ForFields e ≡ [] → PrintsOnly Other e → FitReturn p C x constructs first x.result e → returned_fits z e ≡ true → returned_fits w e ≡ true
  returned_again None h g f i = refl
  returned_again (Some e) h g f i =
      let one = and_parts (fits z e && is_some (type_of e) && implied (is_non_null_type z.body.result) (source.is_non_null_type z.context.result)) (implied (is_non_null (result_type z.written.result)) (source.is_non_null_type z.context.result)) i in
      let two = and_parts (fits z e && is_some (type_of e)) (implied (is_non_null_type z.body.result) (source.is_non_null_type z.context.result)) one.0 in
      let three = and_parts (fits z e) (is_some (type_of e)) two.0 in
      and_from _ _ (and_from _ _ (and_from _ _ (again e h g (in_return x.result e f) three.0) three.1) two.1) one.1

  mutual
    pub stmt_again : (s : StmtTree) → uses_at ForFields s ≡ [] → At OtherSimple Other s → FitStmt p C x constructs first s → stmt_fits z s ≡ true → stmt_fits w s ≡ true
    stmt_again (InBlock a) h g f i = block_again a h g f i
    stmt_again (DeclareOf ds) h g f i = declared_again ds h g f i
    stmt_again (SimpleOf s) h g f i = simple_again s h g f i
    stmt_again (IfOf q e a) h g f i =
        let n = none_left (uses ForFields e) (uses_at ForFields a) h in
        let both = and_parts (fits z e) (stmt_fits z a) i in
        and_from _ _ (again e n.0 g.0 f.0.0.0 both.0) (stmt_again a n.1 g.1 f.1 both.1)
    stmt_again (IfElseOf q e a d) h g f i =
        let n = none_left (uses ForFields e ++ uses_at ForFields a) (uses_at ForFields d) h in
        let m = none_left (uses ForFields e) (uses_at ForFields a) n.0 in
        let one = and_parts (fits z e && stmt_fits z a) (stmt_fits z d) i in
        let two = and_parts (fits z e) (stmt_fits z a) one.0 in
        and_from _ _ (and_from _ _ (again e m.0 g.0 f.0.0.0 two.0) (stmt_again a m.1 g.1 f.1 two.1)) (stmt_again d n.1 g.2 f.2 one.1)
    stmt_again (WhileOf q e is a) h g f i =
        let n = none_left (uses ForFields e ++ uses_in_all ForFields is) (uses_at ForFields a) h in
        let m = none_left (uses ForFields e) (uses_in_all ForFields is) n.0 in
        let both = and_parts (fits z e) (stmt_fits z a) i in
        and_from _ _ (again e m.0 g.0 f.0.0.0 both.0) (stmt_again a n.1 g.2 f.2 both.1)
    stmt_again (ForOf q j e s is a) h g f i =
        let n = none_left (uses_first ForFields j ++ uses_if ForFields e ++ uses_step ForFields s ++ uses_in_all ForFields is) (uses_at ForFields a) h in
        let m = none_left (uses_first ForFields j ++ uses_if ForFields e ++ uses_step ForFields s) (uses_in_all ForFields is) n.0 in
        let l = none_left (uses_first ForFields j ++ uses_if ForFields e) (uses_step ForFields s) m.0 in
        let k = none_left (uses_first ForFields j) (uses_if ForFields e) l.0 in
        let one = and_parts (begin_fits z j && may_fit z e && advance_fits z s) (stmt_fits z a) i in
        let two = and_parts (begin_fits z j && may_fit z e) (advance_fits z s) one.0 in
        let three = and_parts (begin_fits z j) (may_fit z e) two.0 in
        and_from _ _ (and_from _ _ (and_from _ _ (first_again j k.0 g.0 f.0 three.0) (test_again e k.1 g.1 f.1 three.1)) (step_again s l.1 g.2 f.2 two.1)) (stmt_again a n.1 g.4 f.4 one.1)
    stmt_again (ReturnOf q e) h g f i = returned_again e h g f i
    stmt_again (AssertOf q e) h g f i = refl
    stmt_again (AssumeOf q e) h g f i = refl
    stmt_again (ExposeOf q e t a) h g f i =
        let n = none_left (uses ForFields e) (uses_in ForFields a) h in
        let both = and_parts (fits z e) (block_fits z a) i in
        and_from _ _ (again e n.0 g.0 f.0.0.0 both.0) (block_again a n.1 g.1 f.1 both.1)
    stmt_again (EmptyOf q) h g f i = refl

    pub block_again : (a : BlockTree) → uses_in ForFields a ≡ [] → InAll OtherSimple Other a → FitBlock p C x constructs first a → block_fits z a ≡ true → block_fits w a ≡ true
    block_again (BlockOf q ss end) h g f i = stmts_again ss h g f i

    pub stmts_again : (ss : StmtTrees) → uses_along ForFields ss ≡ [] → Along OtherSimple Other ss → FitAll p C x constructs first ss → all_fitting z ss ≡ true → all_fitting w ss ≡ true
    stmts_again typed.StmtTrees.NoMore h g f i = refl
    stmts_again (Before s ss) h g f i =
        let n = none_left (uses_at ForFields s) (uses_along ForFields ss) h in
        let both = and_parts (stmt_fits z s) (all_fitting z ss) i in
        and_from _ _ (stmt_again s n.0 g.0 f.0 both.0) (stmts_again ss n.1 g.1 f.1 both.1)
