-- How many locals a body has before calls are lifted out of its expressions: those that it declares, and a copy of each parameter that
-- it assigns.
use Rattle.std.specs.Prelude.{ℕ, ◌+◌, List, [], length, Option, Some, None, if◌then◌else◌}
use Rattle.ss_ast.specs.Expressions.{ExprTree, IffOf, ImpliesOf, BinaryOf, IsOf, AsOf, NegateOf, NotOf, CastOf, MemberOf, ElementOf, CallOf, NumberOf, TextOf, TruthOf, NullOf, ThisOf, BaseOf, ResultOf, NameOf, ParenOf, OldOf, NewOf, NewArrayOf, QuantifiedOf}
use Rattle.ss_ast.specs.Statements.{SimpleTree, AssignOf, StepOf, AloneOf, ForInitTree, DeclareFirst, SimpleFirst, BlockTree, BlockOf, StmtTree, InBlock, DeclareOf, SimpleOf, IfOf, IfElseOf, WhileOf, ForOf, ReturnOf, AssertOf, AssumeOf, ExposeOf, EmptyOf, StmtTrees, NoMore, Before}
use Rattle.ss_tables.specs.Scopes.{Local, Scope, local_named, enter, behind, after_init}
use Rattle.ss_resolver_names_rules.specs.Faults.{with_name}

-- ---- declared locals

abbrev pub init_locals : Option ForInitTree → ℕ
init_locals None = 0
init_locals (Some (DeclareFirst d)) = length d.declarators
init_locals (Some (SimpleFirst x)) = 0

abbrev mutual
  pub stmt_locals : StmtTree → ℕ
  stmt_locals (InBlock b) = block_locals b
  stmt_locals (DeclareOf d) = length d.declarators
  stmt_locals (SimpleOf x) = 0
  stmt_locals (IfOf p e a) = stmt_locals a
  stmt_locals (IfElseOf p e a b) = stmt_locals a + stmt_locals b
  stmt_locals (WhileOf p e es a) = stmt_locals a
  stmt_locals (ForOf p i e x es a) = init_locals i + stmt_locals a
  stmt_locals (ReturnOf p e) = 0
  stmt_locals (AssertOf p e) = 0
  stmt_locals (AssumeOf p e) = 0
  stmt_locals (ExposeOf p e n b) = block_locals b
  stmt_locals (EmptyOf p) = 0

  pub block_locals : BlockTree → ℕ
  block_locals (BlockOf p xs q) = stmts_locals xs

  pub stmts_locals : StmtTrees → ℕ
  stmts_locals NoMore = 0
  stmts_locals (Before x xs) = stmt_locals x + stmts_locals xs

-- ---- parameters that are assigned, each once: after these names come those of a statement

abbrev pub if_param : List (List ℕ) → List ℕ → Option Local → List (List ℕ)
if_param ns n None = ns
if_param ns n (Some l) = if l.is_param then with_name ns n else ns

abbrev pub target_param : Scope → List (List ℕ) → ExprTree → List (List ℕ)
target_param s ns (NameOf p n) = if_param ns n (local_named s n)
target_param s ns (MemberOf p e n) = ns
target_param s ns (ElementOf p e i) = ns
target_param s ns (IffOf p a b) = ns
target_param s ns (ImpliesOf p a b) = ns
target_param s ns (BinaryOf p o a b) = ns
target_param s ns (IsOf p e t) = ns
target_param s ns (AsOf p e t) = ns
target_param s ns (NegateOf p e) = ns
target_param s ns (NotOf p e) = ns
target_param s ns (CastOf p t e) = ns
target_param s ns (CallOf p e es) = ns
target_param s ns (NumberOf p n) = ns
target_param s ns (TextOf p x) = ns
target_param s ns (TruthOf p b) = ns
target_param s ns (NullOf p) = ns
target_param s ns (ThisOf p) = ns
target_param s ns (BaseOf p) = ns
target_param s ns (ResultOf p) = ns
target_param s ns (ParenOf p e) = ns
target_param s ns (OldOf p e) = ns
target_param s ns (NewOf p n es) = ns
target_param s ns (NewArrayOf p q t e) = ns
target_param s ns (QuantifiedOf p q n low high e) = ns

abbrev pub simple_params : Scope → List (List ℕ) → SimpleTree → List (List ℕ)
simple_params s ns (AssignOf a o b) = target_param s ns a
simple_params s ns (StepOf a o) = target_param s ns a
simple_params s ns (AloneOf a) = ns

abbrev pub init_params : Scope → List (List ℕ) → Option ForInitTree → List (List ℕ)
init_params s ns None = ns
init_params s ns (Some (DeclareFirst d)) = ns
init_params s ns (Some (SimpleFirst x)) = simple_params s ns x

abbrev pub step_params : Scope → List (List ℕ) → Option SimpleTree → List (List ℕ)
step_params s ns None = ns
step_params s ns (Some x) = simple_params s ns x

abbrev mutual
  pub stmt_params : Scope → List (List ℕ) → StmtTree → List (List ℕ)
  stmt_params s ns (InBlock b) = block_params s ns b
  stmt_params s ns (DeclareOf d) = ns
  stmt_params s ns (SimpleOf x) = simple_params s ns x
  stmt_params s ns (IfOf p e a) = stmt_params (enter s) ns a
  stmt_params s ns (IfElseOf p e a b) = stmt_params (enter s) (stmt_params (enter s) ns a) b
  stmt_params s ns (WhileOf p e es a) = stmt_params (enter s) ns a
  stmt_params s ns (ForOf p i e x es a) =
      stmt_params (enter (after_init (enter s) i)) (step_params (after_init (enter s) i) (init_params (enter s) ns i) x) a
  stmt_params s ns (ReturnOf p e) = ns
  stmt_params s ns (AssertOf p e) = ns
  stmt_params s ns (AssumeOf p e) = ns
  stmt_params s ns (ExposeOf p e n b) = block_params s ns b
  stmt_params s ns (EmptyOf p) = ns

  pub block_params : Scope → List (List ℕ) → BlockTree → List (List ℕ)
  block_params s ns (BlockOf p xs q) = stmts_params (enter s) ns xs

  pub stmts_params : Scope → List (List ℕ) → StmtTrees → List (List ℕ)
  stmts_params s ns NoMore = ns
  stmts_params s ns (Before x xs) = stmts_params (behind s x) (stmt_params s ns x) xs

-- ---- bodies

-- of a body in the scope of its parameters
abbrev pub locals_in : Scope → BlockTree → ℕ
locals_in s b = block_locals b + length (block_params s [] b)
