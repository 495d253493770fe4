-- Where resolved statements fit, their names mean in the elaboration what they mean in the source.
use Rattle.std.proofs.Common.{◌≡◌, ℕ, ◌+◌, List, [], ◌∷◌, length, Bool, true, false, Option, Some, None, refl, sym, ◌∙◌, ap, arith}
use Rattle.std.specs.Prelude.{not, ◌==◌, ◌&&◌, ◌||◌, is_some, slice_get}
use Rattle.std.proofs.lemmas.Bool.{and_from, or_left, or_right, eq-eqb, false≢true}
use Rattle.ss_core.specs.declared.names.Ty.{Ty}
use Rattle.ss_core.specs.declared.names.Ty.TheVariants as ty
use Rattle.ss_core.specs.Tree as core
use Rattle.ss_core.specs.Types.{is_class_type}
use Rattle.ss_ast.specs.declared.stmt.AssignOperator.{AssignOperator}
use Rattle.ss_ast.specs.declared.stmt.AssignOperator.TheVariants as operator
use Rattle.ss_typed.specs.Tree.{ExprTree, NullOf, LocalOf, FieldOf, Arguments, DeclaratorTree, SimpleTree, AssignOf, StepOf, AloneOf, PrintOf, PrintTextOf, BaseCallOf, InitTree, DeclareFirst, SimpleFirst, BlockTree, BlockOf, StmtTree, InBlock, DeclareOf, SimpleOf, IfOf, IfElseOf, WhileOf, ForOf, ReturnOf, AssertOf, AssumeOf, ExposeOf, EmptyOf, StmtTrees, NoMore, Before, BodyTree, TypedTree}
use Rattle.ss_typed.specs.Types.{type_of}
use Rattle.ss_paths.specs.Fields as fields
use Rattle.ss_nonnull_rules.specs.NonNull as source
use Rattle.ss_nonnull_rules.specs.Facts.{is_null}
use Rattle.ss_expand_rules.specs.Program.{above_of}
use Rattle.ss_typed.specs.Lookups.{constructor_of, param_types_in}
use Rattle.ss_expand_rules.specs.Numbers.{number}
use Rattle.ss_expand_rules.specs.Contracts.{first_param}
use Rattle.ss_expand_rules.specs.Statements.{result_type}
use Rattle.ss_store_rules.specs.Types as types
use Rattle.ss_store_rules.specs.Types.{has_fitting, is_int, is_bool}
use Rattle.ss_store_rules.specs.Typed.{fits_declared}
use Rattle.ss_store_rules.specs.Good.{is_non_null}
use Rattle.ss_store_rules.specs.NonNull.{is_non_null_type}
use Rattle.ss_expand_formed.proofs.Simple.{PrintsOnly, InDeclared}
use Rattle.ss_expand_formed.proofs.ConstructionStatements.{AtFirst, AtStep, At, InAll, Along}
use Rattle.ss_expand_formed.proofs.ReadLocals.{Other, OtherSimple}
use Rattle.ss_expand_formed.proofs.Environments.{context_of}
use Rattle.ss_expand_formed.proofs.Fit.{Context, Fit}
use Rattle.ss_expand_formed.specs.Fitting.{Frame, fits, is_reference_type, target_fits, holds_kind, is_number, assigned_fits, may_fit, base_fits, simple_fits, begins_fitting, declarator_fits, declared_fit, begin_fits, advance_fits, returned_fits, stmt_fits, block_fits, all_fitting, all_fit}
use Rattle.ss_expand_formed.specs.Bodies.{is_own_of, method_frame}
use Rattle.ss_expand_formed.proofs.Fits.{FitCode, FitArguments, FitValue, FitTest, WhereGiven, FitAssigned, FitPrinted, FitSimple, FitDeclarator, FitDeclared, FitFirst, FitStep, FitReturn, FitStmt, FitBlock, FitAll}
use Rattle.ss_expand_formed.proofs.Values.{some_int, some_fitting}
use Rattle.ss_expand_formed.proofs.NullsInNames.{same_mark, same_marks, implied_same, entered, HasNames, typed_at, meant_at, declared_number, own_from, own_at, mine_at}
use Rattle.ss_expand_formed.proofs.NullsInExpressions.{Own, OwnEach, reference_at, field_mark, fit_fits, each_fit_fits}

some_declared : (cs : List core.ClassTree) (a t : Option Ty) → fits_declared cs a t ≡ true → is_some a ≡ true
some_declared cs a None h = absurd (false≢true h)
some_declared cs a (Some t) h = some_fitting cs a t h

int_unmarked : (t : Ty) → is_int (Some t) ≡ true → not (fields.is_non_null t) ≡ true
int_unmarked ty.Int h = refl
int_unmarked ty.Bool h = absurd (false≢true h)
int_unmarked ty.Null h = absurd (false≢true h)
int_unmarked (ty.Ref t n) h = absurd (false≢true h)

int_no_reference : (t : Ty) → is_int (Some t) ≡ true → is_class_type t ≡ false
int_no_reference ty.Int h = refl
int_no_reference ty.Bool h = absurd (false≢true h)
int_no_reference ty.Null h = absurd (false≢true h)
int_no_reference (ty.Ref t n) h = absurd (false≢true h)

int_no_null : (e : ExprTree) → is_int (type_of e) ≡ true → not (is_null e) ≡ true
int_no_null (NullOf q) h = absurd (false≢true h)
int_no_null e h = refl

and_without : (a b : Bool) → b ≡ false → not (a && b) ≡ true
and_without true b h = ap not h
and_without false b h = refl

module _ (c : core.CoreTree) (P : TypedTree) (w : BodyTree) (bs : List BodyTree) (has : HasNames c P w bs) where
  abbrev z : Frame
  z = method_frame c P w bs

  abbrev X : Context
  X = context_of w

  abbrev constructs : Bool
  constructs = w.flags.ctor

  abbrev first : ℕ
  first = first_param w + length w.params

  -- where the body has a `this`
  abbrev pub Moving : Type 0
  Moving = w.flags.is_static ≡ false

  pub code_fits : (e : ExprTree) → FitCode P c.classes X constructs first e → Own c P w bs has e → fits z e ≡ true
  code_fits e f o = fit_fits c P w bs has e f.0 f.1 o

  pub arguments_fit : (es : Arguments) (ts : List Ty) → FitArguments P c.classes X constructs first es ts → OwnEach c P w bs has es → all_fit z es ≡ true
  arguments_fit es ts f o = each_fit_fits c P w bs has es ts f.0 f.1 o

  if_fits : (e : Option ExprTree) → WhereGiven P c.classes X constructs first (FitTest P c.classes X constructs first) e → (Moving → PrintsOnly Other e) → may_fit z e ≡ true
  if_fits None f o = refl
  if_fits (Some e) f o = code_fits e f.0 o

  -- ---- assignments

  target : (l : ExprTree) → Fit P c.classes X 0 l → Own c P w bs has l → target_fits z l ≡ true
  target (LocalOf q x t) f o = and_from _ _ (own_at c P w bs x t f o) (implied_same _ (fields.is_non_null t) (ap is_non_null_type (meant_at c P w bs x t f) ∙ sym (same_mark t)))
  target (FieldOf q e k t) f o = and_from _ _ (implied_same _ (fields.is_non_null t) (sym (field_mark c P w bs has (type_of e) k t f.1))) (ap is_some (ap (λ ds. slice_get ds k) (sym has.same) ∙ f.1.there))
  target l f o = refl

  -- a local that holds no reference gets none
  holds : (x : ℕ) (t : Ty) (a : Option Ty) → (types.is_reference (Some t) ≡ true → z.mine x ≡ true) → has_fitting c.classes a t ≡ true → (z.mine x || not (is_reference_type a)) ≡ true
  holds x t None m h = or_right _ _ refl
  holds x t (Some ty.Int) m h = or_right _ _ refl
  holds x t (Some ty.Bool) m h = or_right _ _ refl
  holds x t (Some ty.Null) m h = or_right _ _ refl
  holds x ty.Int (Some (ty.Ref k n)) m h = absurd (false≢true h)
  holds x ty.Bool (Some (ty.Ref k n)) m h = absurd (false≢true h)
  holds x ty.Null (Some (ty.Ref k n)) m h = absurd (false≢true h)
  holds x (ty.Ref t u) (Some (ty.Ref k n)) m h = or_left _ _ (m refl)

  kept : (l e : ExprTree) → Fit P c.classes X 0 l → Own c P w bs has l → fits_declared c.classes (type_of e) (type_of l) ≡ true → holds_kind z l e ≡ true
  kept (LocalOf q x t) e f o h = holds x t (type_of e) (reference_at c P w bs has x t f o) h
  kept l e f o h = refl

  counts : (l : ExprTree) → Fit P c.classes X 0 l → is_int (type_of l) ≡ true → is_number z l ≡ true
  counts (LocalOf q x t) f h = and_from _ _ (int_unmarked t h) (ap not (mine_at c P w bs x t f) ∙ and_without (is_own_of w x) (is_class_type t) (int_no_reference t h))
  counts (FieldOf q e k t) f h = int_unmarked t h
  counts l f h = refl

  assigned : (l : ExprTree) (o : AssignOperator) (e : ExprTree) → Fit P c.classes X 0 l → Own c P w bs has l → FitAssigned P c.classes X constructs first l o e → (is_some (type_of e) ≡ true) × (assigned_fits z l o e ≡ true)
  assigned l operator.Set e f i h = (some_declared c.classes (type_of e) (type_of l) h, kept l e f i h)
  assigned l operator.Add e f i h = (some_int (type_of e) h.1, and_from _ _ (counts l f h.0) (int_no_null e h.1))
  assigned l operator.Subtract e f i h = (some_int (type_of e) h.1, and_from _ _ (counts l f h.0) (int_no_null e h.1))
  assigned l operator.Multiply e f i h = (some_int (type_of e) h.1, and_from _ _ (counts l f h.0) (int_no_null e h.1))

  -- ---- simple statements

  printed : (e : Option ExprTree) → WhereGiven P c.classes X constructs first (FitPrinted P c.classes X constructs first) e → (Moving → PrintsOnly Other e) → may_fit z e ≡ true
  printed None f o = refl
  printed (Some e) f o = code_fits e f.0 o

  below_fits : (es : Arguments) → constructs ≡ true → (above_of P w.class == 0) ≡ false → FitArguments P c.classes X constructs first es (param_types_in (constructor_of P (above_of P w.class))) → OwnEach c P w bs has es → base_fits z es ≡ true
  below_fits es ctor below f o =
      let takes = has.calls.base_constructor ctor below in
      let params = has.constructors (above_of P w.class) (has.above below) in
      or_right (above_of P w.class == 0) _ (and_from _ _ (entered _ _ _ None takes params) (arguments_fit es (param_types_in (constructor_of P (above_of P w.class))) f o))

  pub base_fit : (es : Arguments) → constructs ≡ true → FitArguments P c.classes X constructs first es (param_types_in (constructor_of P (above_of P w.class))) → OwnEach c P w bs has es → base_fits z es ≡ true
  base_fit es ctor f o = by (above_of P w.class == 0) refl
    where
      by : (top : Bool) → (above_of P w.class == 0) ≡ top → base_fits z es ≡ true
      by true is = or_left (above_of P w.class == 0) _ is
      by false is = below_fits es ctor is f o

  pub simple_fit : (s : SimpleTree) → FitSimple P c.classes X constructs first s → (Moving → OtherSimple s) → simple_fits z s ≡ true
  simple_fit (AssignOf l o e) f i =
      let a = assigned l o e f.0.0 (λ m. (i m).0) f.2 in
      and_from _ _ (and_from _ _ (and_from _ _ (and_from _ _ (target l f.0.0 (λ m. (i m).0)) (code_fits l f.0 (λ m. (i m).0))) (code_fits e f.1 (λ m. (i m).1))) a.0) a.1
  simple_fit (StepOf l o) f i = and_from _ _ (and_from _ _ (target l f.0.0 i) (code_fits l f.0 i)) (counts l f.0.0 f.1)
  simple_fit (AloneOf e) f i = code_fits e f i
  simple_fit (PrintOf q e line) f i = printed e f i
  simple_fit (PrintTextOf q text line) f i = refl
  simple_fit (BaseCallOf q es) f i = base_fit es f.0 f.1 i

  -- ---- declarations

  begins : (x : ℕ) (t : Ty) (e : Option ExprTree) → (types.is_reference (Some t) ≡ true → z.mine x ≡ true) → WhereGiven P c.classes X constructs first (FitValue P c.classes X constructs first t) e → (Moving → PrintsOnly Other e) → begins_fitting z x e ≡ true
  begins x t None m f o = refl
  begins x t (Some e) m f o = and_from _ _ (and_from _ _ (code_fits e f.0 o) (some_fitting c.classes (type_of e) t f.1)) (holds x t (type_of e) m f.1)

  declarator : (d : DeclaratorTree) → FitDeclarator P c.classes X constructs first d → (Moving → PrintsOnly Other d.initial) → declarator_fits z d ≡ true
  declarator d f o =
      let past = f.0 in
      let own = own_from c P w bs d.local d.ty f.1 (omega arith) in
      let same = declared_number c P w bs d.local f.0 in
      let mark = ap is_non_null_type (typed_at c P w bs d.local d.ty f.1) ∙ sym (same_mark d.ty) in
      and_from _ _ (and_from _ _ (and_from _ _ own (eq-eqb (number z.numbers d.local) d.local same)) (implied_same _ (fields.is_non_null d.ty) mark))
      (begins d.local d.ty d.initial (declared_reference d.local d.ty f.1 own) f.3 o)
    where
      declared_reference : (x : ℕ) (t : Ty) → slice_get X.locals x ≡ Some t → is_own_of w x ≡ true → types.is_reference (Some t) ≡ true → z.mine x ≡ true
      declared_reference x ty.Int h o r = absurd (false≢true r)
      declared_reference x ty.Bool h o r = absurd (false≢true r)
      declared_reference x ty.Null h o r = absurd (has.no_null x h)
      declared_reference x (ty.Ref t n) h o r = mine_at c P w bs x (ty.Ref t n) h ∙ and_from _ _ o refl

  declared : (ds : List DeclaratorTree) → FitDeclared P c.classes X constructs first ds → (Moving → InDeclared Other ds) → declared_fit z ds ≡ true
  declared [] f o = refl
  declared (d ∷ ds) f o = and_from _ _ (declarator d f.0 (λ m. (o m).0)) (declared ds f.1 (λ m. (o m).1))

  begun : (i : Option InitTree) → FitFirst P c.classes X constructs first i → (Moving → AtFirst OtherSimple Other i) → begin_fits z i ≡ true
  begun None f o = refl
  begun (Some (DeclareFirst ds)) f o = declared ds f o
  begun (Some (SimpleFirst s)) f o = simple_fit s f o

  stepped : (s : Option SimpleTree) → FitStep P c.classes X constructs first s → (Moving → AtStep OtherSimple s) → advance_fits z s ≡ true
  stepped None f o = refl
  stepped (Some s) f o = simple_fit s f o

  -- ---- statements

  returned : (e : Option ExprTree) → FitReturn P c.classes X constructs first w.result e → (Moving → PrintsOnly Other e) → returned_fits z e ≡ true
  returned None f o = refl
  returned (Some e) f o = by w.result refl f
    where
      by : (r : Option Ty) → w.result ≡ r → FitReturn P c.classes X constructs first r (Some e) → returned_fits z (Some e) ≡ true
      by None is f = absurd f
      by (Some t) is f =
          let same : is_non_null (result_type w.result) ≡ source.is_non_null_type w.result = rw is (sym (same_mark t)) in
          and_from _ _ (and_from _ _ (and_from _ _ (code_fits e f.0 o) (some_fitting c.classes (type_of e) t f.1)) (implied_same _ (source.is_non_null_type w.result) (sym (same_marks w.result)))) (implied_same _ (source.is_non_null_type w.result) same)

  mutual
    pub stmt_fit : (s : StmtTree) → FitStmt P c.classes X constructs first s → (Moving → At OtherSimple Other s) → stmt_fits z s ≡ true
    stmt_fit (InBlock b) f o = block_fit b f o
    stmt_fit (DeclareOf ds) f o = declared ds f o
    stmt_fit (SimpleOf s) f o = simple_fit s f o
    stmt_fit (IfOf q e a) f o = and_from _ _ (code_fits e f.0.0 (λ m. (o m).0)) (stmt_fit a f.1 (λ m. (o m).1))
    stmt_fit (IfElseOf q e a b) f o = and_from _ _ (and_from _ _ (code_fits e f.0.0 (λ m. (o m).0)) (stmt_fit a f.1 (λ m. (o m).1))) (stmt_fit b f.2 (λ m. (o m).2))
    stmt_fit (WhileOf q e is a) f o = and_from _ _ (code_fits e f.0.0 (λ m. (o m).0)) (stmt_fit a f.2 (λ m. (o m).2))
    stmt_fit (ForOf q i e s is a) f o =
        and_from _ _ (and_from _ _ (and_from _ _ (begun i f.0 (λ m. (o m).0)) (if_fits e f.1 (λ m. (o m).1))) (stepped s f.2 (λ m. (o m).2))) (stmt_fit a f.4 (λ m. (o m).4))
    stmt_fit (ReturnOf q e) f o = returned e f o
    stmt_fit (AssertOf q e) f o = refl
    stmt_fit (AssumeOf q e) f o = refl
    stmt_fit (ExposeOf q e t b) f o = and_from _ _ (code_fits e f.0.0 (λ m. (o m).0)) (block_fit b f.1 (λ m. (o m).1))
    stmt_fit (EmptyOf q) f o = refl

    pub block_fit : (b : BlockTree) → FitBlock P c.classes X constructs first b → (Moving → InAll OtherSimple Other b) → block_fits z b ≡ true
    block_fit (BlockOf q ss end) f o = stmts_fit ss f o

    pub stmts_fit : (ss : StmtTrees) → FitAll P c.classes X constructs first ss → (Moving → Along OtherSimple Other ss) → all_fitting z ss ≡ true
    stmts_fit NoMore f o = refl
    stmts_fit (Before s ss) f o = and_from _ _ (stmt_fit s f.0 (λ m. (o m).0)) (stmts_fit ss f.1 (λ m. (o m).1))
