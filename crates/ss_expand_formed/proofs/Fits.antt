-- Resolved statements in which each expression has the type that is wanted at its place.
use Rattle.std.proofs.Common.{◌≡◌, ℕ, ◌≤◌, List, [], ◌∷◌, Bool, true, false, Option, Some, None}
use Rattle.std.specs.Prelude.{not, ◌&&◌, ◌||◌, slice_get}
use Rattle.ss_core.specs.declared.names.Ty.{Ty}
use Rattle.ss_core.specs.Tree as core
use Rattle.ss_core.specs.Chain.{is_type, is_declared}
use Rattle.ss_ast.specs.declared.stmt.AssignOperator.{AssignOperator}
use Rattle.ss_ast.specs.declared.stmt.AssignOperator.TheVariants as operator
use Rattle.ss_typed.specs.Tree.{ExprTree, IffOf, ImpliesOf, BinaryOf, IsOf, AsOf, NegateOf, NotOf, CastOf, FieldOf, ElementOf, LengthOf, QuantifiedOf, NewOf, NewArrayOf, CallOf, StaticOf, BaseOf, Arguments, Argument, DeclaratorTree, SimpleTree, AssignOf, StepOf, AloneOf, PrintOf, PrintTextOf, BaseCallOf, InitTree, DeclareFirst, SimpleFirst, BlockTree, BlockOf, StmtTree, InBlock, DeclareOf, SimpleOf, IfOf, IfElseOf, WhileOf, ForOf, ReturnOf, AssertOf, AssumeOf, ExposeOf, EmptyOf, StmtTrees, Before, TypedTree}
use Rattle.ss_typed.specs.Tree as typed
use Rattle.ss_typed.specs.Types.{type_of}
use Rattle.ss_owners_rules.specs.Words.{Allowed, NoWord, OfEntry, misplaced, misplaced_each}
use Rattle.ss_expand_rules.specs.Program.{above_of}
use Rattle.ss_typed.specs.Lookups.{constructor_of, param_types_in}
use Rattle.ss_expand_rules.specs.Calls.{has_call}
use Rattle.ss_expand_rules.specs.Statements.{exposed_class}
use Rattle.ss_store_rules.specs.Changes.{below}
use Rattle.ss_store_rules.specs.Types.{has_fitting, is_int, is_bool, has_class}
use Rattle.ss_store_rules.specs.Typed.{fits_declared}
use Rattle.ss_expand_formed.proofs.Fit.{Context, Fit, Fits}

-- no call stands in a quantifier, so that each can be lifted out
abbrev mutual
  pub can_lift : ExprTree → Bool
  can_lift (IffOf p a b) = can_lift a && can_lift b
  can_lift (ImpliesOf p a b) = can_lift a && can_lift b
  can_lift (BinaryOf p o a b) = can_lift a && can_lift b
  can_lift (IsOf p e t) = can_lift e
  can_lift (AsOf p e t) = can_lift e
  can_lift (NegateOf p e) = can_lift e
  can_lift (NotOf p e) = can_lift e
  can_lift (CastOf p t non_null e) = can_lift e
  can_lift (FieldOf p e f t) = can_lift e
  can_lift (ElementOf p a i) = can_lift a && can_lift i
  can_lift (LengthOf p e) = can_lift e
  can_lift (QuantifiedOf p q name low high e) = not (has_call low || has_call high || has_call e)
  can_lift (NewOf p t es) = can_lift_all es
  can_lift (NewArrayOf p t e) = can_lift e
  can_lift (CallOf p e m t es) = can_lift e && can_lift_all es
  can_lift (StaticOf p n t es) = can_lift_all es
  can_lift (BaseOf p m t es) = can_lift_all es
  can_lift e = true

  pub can_lift_all : Arguments → Bool
  can_lift_all typed.Arguments.NoMore = true
  can_lift_all (Argument e es) = can_lift e && can_lift_all es

-- In the context, whose declared locals have the numbers from `first` on; it is that of a constructor or not.
module _ (P : TypedTree) (C : List core.ClassTree) (x : Context) (constructs : Bool) (first : ℕ) where
  -- an expression of code
  abbrev pub FitCode : ExprTree → Type 0
  FitCode e = Fit P C x 0 e × (misplaced NoWord e ≡ []) × (can_lift e ≡ true)

  -- arguments of these types
  abbrev pub FitArguments : Arguments → List Ty → Type 0
  FitArguments es ts = Fits P C x 0 es ts × (misplaced_each NoWord es ≡ []) × (can_lift_all es ≡ true)

  abbrev pub FitValue : Ty → ExprTree → Type 0
  FitValue t e = FitCode e × (has_fitting C (type_of e) t ≡ true)

  abbrev pub FitTest : ExprTree → Type 0
  FitTest e = FitCode e × (is_bool (type_of e) ≡ true)

  -- a truth value without calls, which has these words alone
  abbrev pub FitClaim : Allowed → ExprTree → Type 0
  FitClaim w e = Fit P C x 0 e × (is_bool (type_of e) ≡ true) × (has_call e ≡ false) × (misplaced w e ≡ [])

  abbrev pub FitClaims : Allowed → List ExprTree → Type 0
  FitClaims w [] = Unit {0}
  FitClaims w (e ∷ es) = FitClaim w e × FitClaims w es

  abbrev pub WhereGiven : (ExprTree → Type 0) → Option ExprTree → Type 0
  WhereGiven F None = Unit {0}
  WhereGiven F (Some e) = F e

  -- ---- simple statements

  -- the value fits the left side; numbers alone are updated
  abbrev pub FitAssigned : ExprTree → AssignOperator → ExprTree → Type 0
  FitAssigned l operator.Set e = fits_declared C (type_of e) (type_of l) ≡ true
  FitAssigned l o e = (is_int (type_of l) ≡ true) × (is_int (type_of e) ≡ true)

  abbrev pub FitPrinted : ExprTree → Type 0
  FitPrinted e = FitCode e × ((is_int (type_of e) || is_bool (type_of e)) ≡ true)

  abbrev pub FitSimple : SimpleTree → Type 0
  FitSimple (AssignOf l o e) = FitCode l × FitCode e × FitAssigned l o e
  FitSimple (StepOf l o) = FitCode l × (is_int (type_of l) ≡ true)
  FitSimple (AloneOf e) = FitCode e
  FitSimple (PrintOf p e line) = WhereGiven FitPrinted e
  FitSimple (PrintTextOf p text line) = Unit {0}
  FitSimple (BaseCallOf p es) = (constructs ≡ true) × FitArguments es (param_types_in (constructor_of P (above_of P x.class)))

  -- ---- declarations

  abbrev pub FitDeclarator : DeclaratorTree → Type 0
  FitDeclarator d = (first ≤ d.local) × (slice_get x.locals d.local ≡ Some d.ty) × (is_type C d.ty ≡ true) × WhereGiven (FitValue d.ty) d.initial

  abbrev pub FitDeclared : List DeclaratorTree → Type 0
  FitDeclared [] = Unit {0}
  FitDeclared (d ∷ ds) = FitDeclarator d × FitDeclared ds

  abbrev pub FitFirst : Option InitTree → Type 0
  FitFirst None = Unit {0}
  FitFirst (Some (DeclareFirst ds)) = FitDeclared ds
  FitFirst (Some (SimpleFirst s)) = FitSimple s

  abbrev pub FitStep : Option SimpleTree → Type 0
  FitStep None = Unit {0}
  FitStep (Some s) = FitSimple s

  -- ---- statements

  -- a result is returned exactly where there is one
  abbrev pub FitReturn : Option Ty → Option ExprTree → Type 0
  FitReturn None None = Unit {0}
  FitReturn None (Some e) = ⊥
  FitReturn (Some t) None = ⊥
  FitReturn (Some t) (Some e) = FitValue t e

  -- an object of the declared class at which it is exposed, or of one below
  abbrev pub FitExposed : ExprTree → ℕ → Type 0
  FitExposed e t = FitCode e × (is_declared C t ≡ true) × (has_class (λ c. below C c t) (type_of e) ≡ true)

  abbrev mutual
    pub FitStmt : StmtTree → Type 0
    FitStmt (InBlock b) = FitBlock b
    FitStmt (DeclareOf ds) = FitDeclared ds
    FitStmt (SimpleOf s) = FitSimple s
    FitStmt (IfOf p e a) = FitTest e × FitStmt a
    FitStmt (IfElseOf p e a b) = FitTest e × FitStmt a × FitStmt b
    FitStmt (WhileOf p e is a) = FitTest e × FitClaims OfEntry is × FitStmt a
    FitStmt (ForOf p i e s is a) = FitFirst i × WhereGiven FitTest e × FitStep s × FitClaims OfEntry is × FitStmt a
    FitStmt (ReturnOf p e) = FitReturn x.result e
    FitStmt (AssertOf p e) = FitClaim OfEntry e
    FitStmt (AssumeOf p e) = FitClaim NoWord e
    FitStmt (ExposeOf p e t b) = FitExposed e (exposed_class e t) × FitBlock b
    FitStmt (EmptyOf p) = Unit {0}

    pub FitBlock : BlockTree → Type 0
    FitBlock (BlockOf p ss end) = FitAll ss

    pub FitAll : StmtTrees → Type 0
    FitAll typed.StmtTrees.NoMore = Unit {0}
    FitAll (Before s ss) = FitStmt s × FitAll ss
