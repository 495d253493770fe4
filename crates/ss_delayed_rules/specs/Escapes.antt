-- Where `this` stands. A bare name of a member stands for `this` with that member, at the place of the name.
use Rattle.std.specs.Prelude.{List, [], ◌∷◌, ◌++◌, Bool, true, false, ◌&&◌, if◌then◌else◌, Option, Some, None}
use Rattle.ss_core.specs.declared.names.Place.{Place}
use Rattle.ss_ast.specs.declared.stmt.AssignOperator.TheVariants as assign
use Rattle.ss_typed.specs.Tree.{ExprTree, ThisOf, FieldOf, ElementOf, LengthOf, NegateOf, NotOf, BinaryOf, ImpliesOf, IffOf, IsOf, AsOf, CastOf, OldOf, QuantifiedOf, StateOf, OwnersOf, NewOf, NewArrayOf, CallOf, StaticOf, BaseOf, Arguments, NoMore, Argument, DeclaratorTree, SimpleTree, AssignOf, StepOf, AloneOf, BaseCallOf, PrintOf, PrintTextOf, InitTree, DeclareFirst, SimpleFirst, BlockTree, BlockOf, StmtTree, InBlock, DeclareOf, SimpleOf, IfOf, IfElseOf, WhileOf, ForOf, ReturnOf, AssertOf, AssumeOf, ExposeOf, EmptyOf, StmtTrees, Before}
use Rattle.ss_typed.specs.Tree as tree
use Rattle.ss_typed.specs.Shapes.{is_this}

-- how `this` may be used: a field of it may be read, or it may not be used at all
pub data Use : Type 0 where
  ForFields : Use
  NotAtAll : Use

abbrev pub may_read : Use → Bool
may_read ForFields = true
may_read NotAtAll = false

abbrev mutual
  -- the places in the expression where `this` is used otherwise; `base.M(..)` uses it at `base`
  pub uses : Use → ExprTree → List Place
  uses u (ThisOf p t) = p ∷ []
  uses u (FieldOf p e f t) = if may_read u && is_this e then [] else uses u e
  uses u (IffOf p a b) = uses u a ++ uses u b
  uses u (ImpliesOf p a b) = uses u a ++ uses u b
  uses u (BinaryOf p o a b) = uses u a ++ uses u b
  uses u (IsOf p e t) = uses u e
  uses u (AsOf p e t) = uses u e
  uses u (NegateOf p e) = uses u e
  uses u (NotOf p e) = uses u e
  uses u (CastOf p t non_null e) = uses u e
  uses u (ElementOf p a i) = uses u a ++ uses u i
  uses u (LengthOf p e) = uses u e
  uses u (OldOf p e) = uses u e
  uses u (QuantifiedOf p q name low high e) = uses u low ++ uses u high ++ uses u e
  uses u (StateOf p w e) = uses u e
  uses u (OwnersOf p w a b) = uses u a ++ uses u b
  uses u (NewOf p t es) = uses_each u es
  uses u (NewArrayOf p t e) = uses u e
  uses u (CallOf p e m t es) = uses u e ++ uses_each u es
  uses u (StaticOf p n t es) = uses_each u es
  uses u (BaseOf p m t es) = p ∷ uses_each u es
  uses u e = []

  pub uses_each : Use → Arguments → List Place
  uses_each u NoMore = []
  uses_each u (Argument e es) = uses u e ++ uses_each u es

abbrev pub uses_in_all : Use → List ExprTree → List Place
uses_in_all u [] = []
uses_in_all u (e ∷ es) = uses u e ++ uses_in_all u es

abbrev pub uses_if : Use → Option ExprTree → List Place
uses_if u None = []
uses_if u (Some e) = uses u e

-- ---- statements

abbrev pub is_own_field_read : ExprTree → Bool
is_own_field_read (FieldOf p e f t) = is_this e
is_own_field_read e = false

-- a field of `this` on the left is no use
abbrev pub uses_left : Use → ExprTree → List Place
uses_left u l = if is_own_field_read l then [] else uses u l

abbrev pub uses_declared : Use → List DeclaratorTree → List Place
uses_declared u [] = []
uses_declared u (d ∷ ds) = uses_if u d.initial ++ uses_declared u ds

abbrev pub uses_done : Use → SimpleTree → List Place
uses_done u (AssignOf l assign.Set e) = uses_left u l ++ uses u e
uses_done u (AssignOf l o e) = uses u l ++ uses u e
uses_done u (StepOf l o) = uses u l
uses_done u (AloneOf e) = uses u e
uses_done u (PrintOf p e line) = uses_if u e
uses_done u (PrintTextOf p text line) = []
uses_done u (BaseCallOf p es) = uses_each u es

abbrev pub uses_first : Use → Option InitTree → List Place
uses_first u None = []
uses_first u (Some (DeclareFirst ds)) = uses_declared u ds
uses_first u (Some (SimpleFirst s)) = uses_done u s

abbrev pub uses_step : Use → Option SimpleTree → List Place
uses_step u None = []
uses_step u (Some s) = uses_done u s

abbrev mutual
  -- those in the statement, its conditions included
  pub uses_at : Use → StmtTree → List Place
  uses_at u (InBlock b) = uses_in u b
  uses_at u (DeclareOf ds) = uses_declared u ds
  uses_at u (SimpleOf s) = uses_done u s
  uses_at u (IfOf p e a) = uses u e ++ uses_at u a
  uses_at u (IfElseOf p e a b) = uses u e ++ uses_at u a ++ uses_at u b
  uses_at u (WhileOf p e invariants s) = uses u e ++ uses_in_all u invariants ++ uses_at u s
  uses_at u (ForOf p first e step invariants s) = uses_first u first ++ uses_if u e ++ uses_step u step ++ uses_in_all u invariants ++ uses_at u s
  uses_at u (ReturnOf p e) = uses_if u e
  uses_at u (AssertOf p e) = uses u e
  uses_at u (AssumeOf p e) = uses u e
  uses_at u (ExposeOf p e t b) = uses u e ++ uses_in u b
  uses_at u (EmptyOf p) = []

  pub uses_in : Use → BlockTree → List Place
  uses_in u (BlockOf p ss end) = uses_along u ss

  pub uses_along : Use → StmtTrees → List Place
  uses_along u tree.StmtTrees.NoMore = []
  uses_along u (Before s ss) = uses_at u s ++ uses_along u ss
