-- Resolved programs as plain trees, which every definition speaks of: a chain is grouped to the left, and so is a path.
use Rattle.std.specs.Prelude.{ℕ, ℤ, Bool, List, [], ◌∷◌, Option}
use Rattle.ss_core.specs.declared.names.Place.{Place}
use Rattle.ss_ast.specs.declared.stmt.AssignOperator.{AssignOperator}
use Rattle.ss_ast.specs.declared.stmt.StepOperator.{StepOperator}
use Rattle.ss_ast.specs.Expressions.{NameTree}
use Rattle.ss_core.specs.declared.names.Ty.{Ty}
use Rattle.ss_core.specs.declared.expr.Operator.{Operator}
use Rattle.ss_core.specs.declared.expr.Quantifier.{Quantifier}
use Rattle.ss_core.specs.Tree.{WordTree, OwnersTree, LocalTree, ClassTree}
use Rattle.ss_typed.specs.declared.body.TypedFlags.{TypedFlags}

-- an expression in which names are numbers, and a list of arguments
mutual
  pub data ExprTree : Type 0 where
    IntOf : Place → ℤ → ExprTree
    BoolOf : Place → Bool → ExprTree
    NullOf : Place → ExprTree
    -- the class of the body
    ThisOf : Place → ℕ → ExprTree
    LocalOf : Place → ℕ → Ty → ExprTree
    ResultOf : Place → Option Ty → ExprTree
    -- how many quantifiers stand around the one that binds it
    BoundOf : Place → ℕ → ExprTree
    IffOf : Place → ExprTree → ExprTree → ExprTree
    ImpliesOf : Place → ExprTree → ExprTree → ExprTree
    BinaryOf : Place → Operator → ExprTree → ExprTree → ExprTree
    IsOf : Place → ExprTree → ℕ → ExprTree
    AsOf : Place → ExprTree → ℕ → ExprTree
    NegateOf : Place → ExprTree → ExprTree
    NotOf : Place → ExprTree → ExprTree
    -- the class, and whether null doesn't pass
    CastOf : Place → ℕ → Bool → ExprTree → ExprTree
    -- the field and its type
    FieldOf : Place → ExprTree → ℕ → Ty → ExprTree
    ElementOf : Place → ExprTree → ExprTree → ExprTree
    LengthOf : Place → ExprTree → ExprTree
    OldOf : Place → ExprTree → ExprTree
    -- the bound name, the bounds, and the member
    QuantifiedOf : Place → Quantifier → List ℕ → ExprTree → ExprTree → ExprTree → ExprTree
    StateOf : Place → WordTree → ExprTree → ExprTree
    OwnersOf : Place → OwnersTree → ExprTree → ExprTree → ExprTree
    NewOf : Place → ℕ → Arguments → ExprTree
    -- the class of the array
    NewArrayOf : Place → ℕ → ExprTree → ExprTree
    -- the receiver, the method's place in the table of its static class, the result's type
    CallOf : Place → ExprTree → ℕ → Option Ty → Arguments → ExprTree
    -- the written body
    StaticOf : Place → ℕ → Option Ty → Arguments → ExprTree
    -- the method's place in the table of the class above
    BaseOf : Place → ℕ → Option Ty → Arguments → ExprTree

  pub data Arguments : Type 0 where
    NoMore : Arguments
    Argument : ExprTree → Arguments → Arguments

abbrev pub arguments : List ExprTree → Arguments
arguments [] = NoMore
arguments (e ∷ es) = Argument e (arguments es)

-- a declared local: the place of its name, its number, its type, and what it begins with
pub record DeclaratorTree : Type 0 where
  pub place : Place
  pub local : ℕ
  pub ty : Ty
  pub initial : Option ExprTree

-- a statement that may also stand in the heading of a `for`
pub data SimpleTree : Type 0 where
  AssignOf : ExprTree → AssignOperator → ExprTree → SimpleTree
  StepOf : ExprTree → StepOperator → SimpleTree
  AloneOf : ExprTree → SimpleTree
  PrintOf : Place → Option ExprTree → Bool → SimpleTree
  PrintTextOf : Place → List ℕ → Bool → SimpleTree
  BaseCallOf : Place → Arguments → SimpleTree

pub data InitTree : Type 0 where
  DeclareFirst : List DeclaratorTree → InitTree
  SimpleFirst : SimpleTree → InitTree

-- a block has the places of its two braces
mutual
  pub data BlockTree : Type 0 where
    BlockOf : Place → StmtTrees → Place → BlockTree

  pub data StmtTree : Type 0 where
    InBlock : BlockTree → StmtTree
    DeclareOf : List DeclaratorTree → StmtTree
    SimpleOf : SimpleTree → StmtTree
    IfOf : Place → ExprTree → StmtTree → StmtTree
    IfElseOf : Place → ExprTree → StmtTree → StmtTree → StmtTree
    WhileOf : Place → ExprTree → List ExprTree → StmtTree → StmtTree
    ForOf : Place → Option InitTree → Option ExprTree → Option SimpleTree → List ExprTree → StmtTree → StmtTree
    ReturnOf : Place → Option ExprTree → StmtTree
    AssertOf : Place → ExprTree → StmtTree
    AssumeOf : Place → ExprTree → StmtTree
    ExposeOf : Place → ExprTree → Option ℕ → BlockTree → StmtTree
    EmptyOf : Place → StmtTree

  pub data StmtTrees : Type 0 where
    NoMore : StmtTrees
    Before : StmtTree → StmtTrees → StmtTrees

abbrev pub stmt_trees : List StmtTree → StmtTrees
stmt_trees [] = NoMore
stmt_trees (s ∷ ss) = Before s (stmt_trees ss)

-- a parameter, with the place of its name and its attributes
pub record ParamTree : Type 0 where
  pub name : List ℕ
  pub place : Place
  pub ty : Ty
  pub captured : Bool
  pub attributes : List NameTree

-- a term of a `modifies` clause: `o.f`, `o.*` and `a[*]`
pub data ModifiedTree : Type 0 where
  OneOf : ExprTree → ℕ → ModifiedTree
  AllOf : ExprTree → ModifiedTree
  ElementsOf : ExprTree → ModifiedTree

-- `: base(..)`, with the place of `base`
pub record BaseTree : Type 0 where
  pub place : Place
  pub arguments : Arguments

-- a method or a constructor as it is written
pub record BodyTree : Type 0 where
  pub class : ℕ
  pub name : List ℕ
  pub place : Place
  pub flags : TypedFlags
  pub attributes : List NameTree
  pub params : List ParamTree
  -- the locals that it declares
  pub locals : List LocalTree
  pub result : Option Ty
  -- the written conditions at entry and at exit
  pub entry : List ExprTree
  pub exit : List ExprTree
  pub modifies : Option (List ModifiedTree)
  pub base : Option BaseTree
  pub block : BlockTree

pub record FieldTree : Type 0 where
  pub place : Place
  pub attributes : List NameTree
  pub initial : Option ExprTree

pub record InvariantTree : Type 0 where
  pub attributes : List NameTree
  pub condition : ExprTree

-- what a class has beside its entry in the table of classes
pub record MembersTree : Type 0 where
  pub place : Place
  -- the written constructor
  pub constructor : Option ℕ
  pub fields : List FieldTree
  pub invariants : List InvariantTree

-- a resolved program; the tables of its classes name written bodies
pub record TypedTree : Type 0 where
  pub classes : List ClassTree
  pub members : List MembersTree
  pub bodies : List BodyTree
  pub main : ℕ
