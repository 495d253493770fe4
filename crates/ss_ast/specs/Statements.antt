-- Statements as plain trees.
use Rattle.std.specs.Prelude.{List, [], ◌∷◌, Option, Some, None, map, option_map}
use Rattle.ss_core.specs.declared.names.Place.{Place}
use Rattle.ss_ast.specs.declared.stmt.Declarator.{Declarator}
use Rattle.ss_ast.specs.declared.stmt.Declaration.{Declaration}
use Rattle.ss_ast.specs.declared.stmt.AssignOperator.{AssignOperator}
use Rattle.ss_ast.specs.declared.stmt.StepOperator.{StepOperator}
use Rattle.ss_ast.specs.declared.stmt.Simple.{Simple}
use Rattle.ss_ast.specs.declared.stmt.Simple.TheVariants as simple
use Rattle.ss_ast.specs.declared.stmt.ForInit.{ForInit}
use Rattle.ss_ast.specs.declared.stmt.ForInit.TheVariants as init
use Rattle.ss_ast.specs.declared.stmt.Block.{Block}
use Rattle.ss_ast.specs.declared.stmt.Stmt.{Stmt}
use Rattle.ss_ast.specs.declared.stmt.Stmt.TheFolds.{fold-Block, fold-Stmt}
use Rattle.ss_ast.specs.declared.stmt.Stmt.TheOpen as shape
use Rattle.ss_ast.specs.declared.stmt.Stmt.TheOpen.{Block-F, Stmt-F}
use Rattle.ss_ast.specs.Expressions.{NameTree, TypeTree, ExprTree, name_tree, type_tree, expr_tree}

-- a declared name and what it begins with
pub record DeclaratorTree : Type 0 where
  pub name : NameTree
  pub initial : Option ExprTree

pub record DeclarationTree : Type 0 where
  pub ty : TypeTree
  pub declarators : List DeclaratorTree

-- a statement that may also stand in the heading of a `for`
pub data SimpleTree : Type 0 where
  AssignOf : ExprTree → AssignOperator → ExprTree → SimpleTree
  StepOf : ExprTree → StepOperator → SimpleTree
  AloneOf : ExprTree → SimpleTree

pub data ForInitTree : Type 0 where
  DeclareFirst : DeclarationTree → ForInitTree
  SimpleFirst : SimpleTree → ForInitTree

-- a block has the places of its two braces
mutual
  pub data BlockTree : Type 0 where
    BlockOf : Place → StmtTrees → Place → BlockTree

  pub data StmtTree : Type 0 where
    InBlock : BlockTree → StmtTree
    DeclareOf : DeclarationTree → StmtTree
    SimpleOf : SimpleTree → StmtTree
    IfOf : Place → ExprTree → StmtTree → StmtTree
    IfElseOf : Place → ExprTree → StmtTree → StmtTree → StmtTree
    WhileOf : Place → ExprTree → List ExprTree → StmtTree → StmtTree
    ForOf : Place → Option ForInitTree → Option ExprTree → Option SimpleTree → List ExprTree → StmtTree → StmtTree
    ReturnOf : Place → Option ExprTree → StmtTree
    AssertOf : Place → ExprTree → StmtTree
    AssumeOf : Place → ExprTree → StmtTree
    ExposeOf : Place → ExprTree → Option NameTree → BlockTree → StmtTree
    EmptyOf : Place → StmtTree

  pub data StmtTrees : Type 0 where
    NoMore : StmtTrees
    Before : StmtTree → StmtTrees → StmtTrees

abbrev pub stmt_trees : List StmtTree → StmtTrees
stmt_trees [] = NoMore
stmt_trees (s ∷ ss) = Before s (stmt_trees ss)

-- ---- the trees that values of the code stand for

abbrev pub declarator_tree : Declarator → DeclaratorTree
declarator_tree d = record { name = name_tree d.name; initial = option_map expr_tree d.initial }

abbrev pub declaration_tree : Declaration → DeclarationTree
declaration_tree d = record { ty = type_tree d.ty; declarators = map declarator_tree d.declarators.items }

abbrev pub simple_tree : Simple → SimpleTree
simple_tree (simple.Assign a op b) = AssignOf (expr_tree a) op (expr_tree b)
simple_tree (simple.Step a op) = StepOf (expr_tree a) op
simple_tree (simple.Alone a) = AloneOf (expr_tree a)

abbrev pub for_init_tree : ForInit → ForInitTree
for_init_tree (init.Declare d) = DeclareFirst (declaration_tree d)
for_init_tree (init.Simple s) = SimpleFirst (simple_tree s)

abbrev pub block_step : Block-F StmtTree BlockTree → BlockTree
block_step b = BlockOf b.place (stmt_trees b.statements.items) b.end

abbrev pub stmt_step : Stmt-F StmtTree BlockTree → StmtTree
stmt_step (shape.Block b) = InBlock b
stmt_step (shape.Declare d) = DeclareOf (declaration_tree d)
stmt_step (shape.Simple s) = SimpleOf (simple_tree s)
stmt_step (shape.If p e a None) = IfOf p (expr_tree e) a.value
stmt_step (shape.If p e a (Some b)) = IfElseOf p (expr_tree e) a.value b.value
stmt_step (shape.While p e es a) = WhileOf p (expr_tree e) (map expr_tree es.items) a.value
stmt_step (shape.For p i e s es a) = ForOf p (option_map for_init_tree i) (option_map expr_tree e) (option_map simple_tree s) (map expr_tree es.items) a.value
stmt_step (shape.Return p e) = ReturnOf p (option_map expr_tree e)
stmt_step (shape.Assert p e) = AssertOf p (expr_tree e)
stmt_step (shape.Assume p e) = AssumeOf p (expr_tree e)
stmt_step (shape.Expose p e n b) = ExposeOf p (expr_tree e) (option_map name_tree n) b
stmt_step (shape.Empty p) = EmptyOf p

abbrev pub block_tree : Block → BlockTree
block_tree = fold-Block StmtTree BlockTree stmt_step block_step

abbrev pub stmt_tree : Stmt → StmtTree
stmt_tree = fold-Stmt StmtTree BlockTree stmt_step block_step
