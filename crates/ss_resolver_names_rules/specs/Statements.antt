-- Unknown names in statements, and locals that are declared twice in one scope.
use Rattle.std.specs.Prelude.{List, [], ◌∷◌, ◌++◌, Option, Some, None}
use Rattle.ss_ast.specs.Expressions.{NameTree, TypeTree, ExprTree}
use Rattle.ss_ast.specs.Statements.{DeclaratorTree, DeclarationTree, SimpleTree, AssignOf, StepOf, AloneOf, ForInitTree, DeclareFirst, SimpleFirst, BlockTree, BlockOf, StmtTree, InBlock, DeclareOf, SimpleOf, IfOf, IfElseOf, WhileOf, ForOf, ReturnOf, AssertOf, AssumeOf, ExposeOf, EmptyOf, StmtTrees, NoMore, Before}
use Rattle.ss_ast.specs.Programs.{ClassTree}
use Rattle.ss_tables.specs.Scopes.{Scope, enter, declare_local, behind, after_init}
use Rattle.ss_resolver_names_rules.specs.Faults.{Faults, twice_in, class_faults, type_faults}
use Rattle.ss_resolver_names_rules.specs.Expressions.{expr_faults}

abbrev pub faults_of_all : Scope → List ExprTree → Faults
faults_of_all s [] = []
faults_of_all s (e ∷ es) = expr_faults s e ++ faults_of_all s es

abbrev pub faults_of_any : Scope → Option ExprTree → Faults
faults_of_any s None = []
faults_of_any s (Some e) = expr_faults s e

-- the class that an `expose` names
abbrev pub named_class_faults : List ClassTree → Option NameTree → Faults
named_class_faults cs None = []
named_class_faults cs (Some n) = class_faults cs n.text n.place

-- a declarator begins in the scope before it
abbrev pub declarators_faults : Scope → TypeTree → List DeclaratorTree → Faults
declarators_faults s t [] = []
declarators_faults s t (d ∷ ds) =
    faults_of_any s d.initial ++ twice_in s.inner d.name ++ declarators_faults (declare_local s t d.name) t ds

abbrev pub declaration_faults : Scope → DeclarationTree → Faults
declaration_faults s d = type_faults s.classes d.ty ++ declarators_faults s d.ty d.declarators

abbrev pub simple_faults : Scope → SimpleTree → Faults
simple_faults s (AssignOf a o b) = expr_faults s a ++ expr_faults s b
simple_faults s (StepOf a o) = expr_faults s a
simple_faults s (AloneOf a) = expr_faults s a

abbrev pub faults_of_any_simple : Scope → Option SimpleTree → Faults
faults_of_any_simple s None = []
faults_of_any_simple s (Some x) = simple_faults s x

abbrev pub init_faults : Scope → Option ForInitTree → Faults
init_faults s None = []
init_faults s (Some (DeclareFirst d)) = declaration_faults s d
init_faults s (Some (SimpleFirst x)) = simple_faults s x

-- the test, the step and the invariants of a `for`
abbrev pub heading_faults : Scope → Option ExprTree → Option SimpleTree → List ExprTree → Faults
heading_faults s e x es = faults_of_any s e ++ faults_of_any_simple s x ++ faults_of_all s es

abbrev mutual
  pub stmt_faults : Scope → StmtTree → Faults
  stmt_faults s (InBlock b) = block_faults s b
  stmt_faults s (DeclareOf d) = declaration_faults s d
  stmt_faults s (SimpleOf x) = simple_faults s x
  stmt_faults s (IfOf p e a) = expr_faults s e ++ stmt_faults (enter s) a
  stmt_faults s (IfElseOf p e a b) = expr_faults s e ++ stmt_faults (enter s) a ++ stmt_faults (enter s) b
  stmt_faults s (WhileOf p e es a) = expr_faults s e ++ faults_of_all s es ++ stmt_faults (enter s) a
  stmt_faults s (ForOf p i e x es a) =
      init_faults (enter s) i ++ heading_faults (after_init (enter s) i) e x es ++ stmt_faults (enter (after_init (enter s) i)) a
  stmt_faults s (ReturnOf p e) = faults_of_any s e
  stmt_faults s (AssertOf p e) = expr_faults s e
  stmt_faults s (AssumeOf p e) = expr_faults s e
  stmt_faults s (ExposeOf p e n b) = expr_faults s e ++ named_class_faults s.classes n ++ block_faults s b
  stmt_faults s (EmptyOf p) = []

  pub block_faults : Scope → BlockTree → Faults
  block_faults s (BlockOf p xs q) = stmts_faults (enter s) xs

  pub stmts_faults : Scope → StmtTrees → Faults
  stmts_faults s NoMore = []
  stmts_faults s (Before x xs) = stmt_faults s x ++ stmts_faults (behind s x) xs
