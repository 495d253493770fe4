-- Where the words of conditions stand: questions about levels and owners, `old`, and `result`.
use Rattle.std.specs.Prelude.{List, [], ◌∷◌, ◌++◌, Bool, true, false, if◌then◌else◌, Option, Some, None}
use Rattle.ss_core.specs.declared.names.Place.{Place}
use Rattle.ss_core.specs.Tree.{WordTree, Consistent, Committed, New, Level, Packed, Unowned}
use Rattle.ss_typed.specs.Tree.{ExprTree, ResultOf, FieldOf, ElementOf, LengthOf, NegateOf, NotOf, BinaryOf, ImpliesOf, IffOf, IsOf, AsOf, CastOf, OldOf, QuantifiedOf, StateOf, OwnersOf, NewOf, NewArrayOf, CallOf, StaticOf, BaseOf, Arguments, NoMore, Argument, DeclaratorTree, SimpleTree, AssignOf, StepOf, AloneOf, BaseCallOf, PrintOf, PrintTextOf, InitTree, DeclareFirst, SimpleFirst, BlockTree, BlockOf, StmtTree, InBlock, DeclareOf, SimpleOf, IfOf, IfElseOf, WhileOf, ForOf, ReturnOf, AssertOf, AssumeOf, ExposeOf, EmptyOf, StmtTrees, Before}
use Rattle.ss_typed.specs.Tree as tree

-- Which of these words may stand in an expression, by where it stands. Each line allows what the one before it allows.
pub data Allowed : Type 0 where
  -- none: in code, in `assume`, in `modifies` and in the invariant of a class
  NoWord : Allowed
  -- questions about levels and owners: in `requires`
  Questions : Allowed
  -- `old` and `IsNew`, which speak of the entry: in `assert` and in the invariant of a loop
  OfEntry : Allowed
  -- `result`: in `ensures`
  EveryWord : Allowed

abbrev pub allows_question : Allowed → Bool
allows_question NoWord = false
allows_question Questions = true
allows_question OfEntry = true
allows_question EveryWord = true

abbrev pub allows_old : Allowed → Bool
allows_old NoWord = false
allows_old Questions = false
allows_old OfEntry = true
allows_old EveryWord = true

abbrev pub allows_result : Allowed → Bool
allows_result NoWord = false
allows_result Questions = false
allows_result OfEntry = false
allows_result EveryWord = true

abbrev pub allows_state : Allowed → WordTree → Bool
allows_state a Consistent = allows_question a
allows_state a Committed = allows_question a
allows_state a New = allows_old a
allows_state a (Level t) = allows_question a
allows_state a (Packed t) = allows_question a
allows_state a Unowned = allows_question a

-- ---- expressions

abbrev pub unless : Bool → Place → List Place
unless is_allowed p = if is_allowed then [] else p ∷ []

abbrev mutual
  -- The words in the expression that aren't allowed there, each at the place of the smallest expression that has it. A quantifier allows
  -- what is allowed around it.
  pub misplaced : Allowed → ExprTree → List Place
  misplaced a (ResultOf p t) = unless (allows_result a) p
  misplaced a (OldOf p e) = unless (allows_old a) p ++ misplaced a e
  misplaced a (StateOf p w e) = unless (allows_state a w) p ++ misplaced a e
  misplaced a (OwnersOf p w e f) = unless (allows_question a) p ++ misplaced a e ++ misplaced a f
  misplaced a (IffOf p e f) = misplaced a e ++ misplaced a f
  misplaced a (ImpliesOf p e f) = misplaced a e ++ misplaced a f
  misplaced a (BinaryOf p o e f) = misplaced a e ++ misplaced a f
  misplaced a (IsOf p e t) = misplaced a e
  misplaced a (AsOf p e t) = misplaced a e
  misplaced a (NegateOf p e) = misplaced a e
  misplaced a (NotOf p e) = misplaced a e
  misplaced a (CastOf p t non_null e) = misplaced a e
  misplaced a (FieldOf p e f t) = misplaced a e
  misplaced a (ElementOf p e i) = misplaced a e ++ misplaced a i
  misplaced a (LengthOf p e) = misplaced a e
  misplaced a (QuantifiedOf p q name low high e) = misplaced a low ++ misplaced a high ++ misplaced a e
  misplaced a (NewOf p t es) = misplaced_each a es
  misplaced a (NewArrayOf p t e) = misplaced a e
  misplaced a (CallOf p e m t es) = misplaced a e ++ misplaced_each a es
  misplaced a (StaticOf p n t es) = misplaced_each a es
  misplaced a (BaseOf p m t es) = misplaced_each a es
  misplaced a e = []

  pub misplaced_each : Allowed → Arguments → List Place
  misplaced_each a NoMore = []
  misplaced_each a (Argument e es) = misplaced a e ++ misplaced_each a es

abbrev pub misplaced_in_all : Allowed → List ExprTree → List Place
misplaced_in_all a [] = []
misplaced_in_all a (e ∷ es) = misplaced a e ++ misplaced_in_all a es

abbrev pub misplaced_if : Allowed → Option ExprTree → List Place
misplaced_if a None = []
misplaced_if a (Some e) = misplaced a e

-- ---- statements

abbrev pub misplaced_declared : List DeclaratorTree → List Place
misplaced_declared [] = []
misplaced_declared (d ∷ ds) = misplaced_if NoWord d.initial ++ misplaced_declared ds

abbrev pub misplaced_done : SimpleTree → List Place
misplaced_done (AssignOf l o e) = misplaced NoWord l ++ misplaced NoWord e
misplaced_done (StepOf l o) = misplaced NoWord l
misplaced_done (AloneOf e) = misplaced NoWord e
misplaced_done (PrintOf p e line) = misplaced_if NoWord e
misplaced_done (PrintTextOf p text line) = []
misplaced_done (BaseCallOf p es) = misplaced_each NoWord es

abbrev pub misplaced_first : Option InitTree → List Place
misplaced_first None = []
misplaced_first (Some (DeclareFirst ds)) = misplaced_declared ds
misplaced_first (Some (SimpleFirst s)) = misplaced_done s

abbrev pub misplaced_step : Option SimpleTree → List Place
misplaced_step None = []
misplaced_step (Some s) = misplaced_done s

abbrev mutual
  -- those in the statement, its conditions included
  pub misplaced_at : StmtTree → List Place
  misplaced_at (InBlock b) = misplaced_in b
  misplaced_at (DeclareOf ds) = misplaced_declared ds
  misplaced_at (SimpleOf s) = misplaced_done s
  misplaced_at (IfOf p e s) = misplaced NoWord e ++ misplaced_at s
  misplaced_at (IfElseOf p e s r) = misplaced NoWord e ++ misplaced_at s ++ misplaced_at r
  misplaced_at (WhileOf p e invariants s) = misplaced NoWord e ++ misplaced_in_all OfEntry invariants ++ misplaced_at s
  misplaced_at (ForOf p first e step invariants s) =
      misplaced_first first ++ misplaced_if NoWord e ++ misplaced_step step ++ misplaced_in_all OfEntry invariants ++ misplaced_at s
  misplaced_at (ReturnOf p e) = misplaced_if NoWord e
  misplaced_at (AssertOf p e) = misplaced OfEntry e
  misplaced_at (AssumeOf p e) = misplaced NoWord e
  misplaced_at (ExposeOf p e t b) = misplaced NoWord e ++ misplaced_in b
  misplaced_at (EmptyOf p) = []

  pub misplaced_in : BlockTree → List Place
  misplaced_in (BlockOf p ss end) = misplaced_along ss

  pub misplaced_along : StmtTrees → List Place
  misplaced_along tree.StmtTrees.NoMore = []
  misplaced_along (Before s ss) = misplaced_at s ++ misplaced_along ss
