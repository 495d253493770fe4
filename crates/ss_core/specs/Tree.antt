-- Core programs as plain trees, which every definition speaks of.
use Rattle.std.specs.Prelude.{ℕ, ℤ, Bool, List, Option}
use Rattle.ss_core.specs.declared.names.Place.{Place}
use Rattle.ss_core.specs.declared.names.Mark.{Mark}
use Rattle.ss_core.specs.declared.names.Ty.{Ty}
use Rattle.ss_core.specs.declared.expr.Operator.{Operator}
use Rattle.ss_core.specs.declared.expr.Quantifier.{Quantifier}
use Rattle.ss_core.specs.declared.body.BodyFlags.{BodyFlags}

-- a question about the state of one object
pub data WordTree : Type 0 where
  Consistent : WordTree
  Committed : WordTree
  New : WordTree
  Level : ℕ → WordTree
  Packed : ℕ → WordTree
  Unowned : WordTree

-- a question about the owners of two objects
pub data OwnersTree : Type 0 where
  SameOwner : OwnersTree
  OwnedAt : ℕ → OwnersTree

-- a condition of a default contract, or of a captured parameter
pub data DefaultTree : Type 0 where
  AtLevel : ℕ → DefaultTree
  Unpacked : DefaultTree
  ThisUnowned : DefaultTree
  Defaults : ℕ → DefaultTree
  OwnedFull : ℕ → DefaultTree
  Full : DefaultTree
  ConsistentArgument : ℕ → DefaultTree
  FullArgument : ℕ → DefaultTree
  -- the argument, and whether `this` isn't to be of its group
  Captured : ℕ → Bool → DefaultTree

-- an expression: a chain is grouped to the left, and so is a path
pub data ExprTree : Type 0 where
  IntExpr : Place → ℤ → ExprTree
  BoolExpr : Place → Bool → ExprTree
  NullExpr : Place → ExprTree
  LocalExpr : Place → ℕ → ExprTree
  FieldExpr : Place → ExprTree → ℕ → ExprTree
  ElementExpr : Place → ExprTree → ExprTree → ExprTree
  LengthExpr : Place → ExprTree → ExprTree
  NegateExpr : Place → ExprTree → ExprTree
  NotExpr : Place → ExprTree → ExprTree
  BinaryExpr : Place → Operator → ExprTree → ExprTree → ExprTree
  ImpliesExpr : Place → ExprTree → ExprTree → ExprTree
  IffExpr : Place → ExprTree → ExprTree → ExprTree
  IsExpr : Place → ExprTree → ℕ → ExprTree
  AsExpr : Place → ExprTree → ℕ → ExprTree
  -- the class, and whether null doesn't pass
  CastExpr : Place → ℕ → Bool → ExprTree → ExprTree
  OldExpr : Place → ExprTree → ExprTree
  -- the bound name, the bounds, and the member
  QuantifiedExpr : Place → Quantifier → List ℕ → ExprTree → ExprTree → ExprTree → ExprTree
  StateExpr : Place → WordTree → ExprTree → ExprTree
  OwnersExpr : Place → OwnersTree → ExprTree → ExprTree → ExprTree
  DefaultExpr : Place → DefaultTree → ExprTree

-- what a call enters
pub data CalleeTree : Type 0 where
  -- the receiver, its static class, and the method's place in the table
  Dispatched : ExprTree → ℕ → ℕ → CalleeTree
  Static : ℕ → CalleeTree
  Base : ℕ → CalleeTree
  BaseConstructor : ℕ → CalleeTree

-- an `expose` around a loop: the local with the object, and the class
pub record ExposedTree : Type 0 where
  pub local : ℕ
  pub class : ℕ

-- a statement, and statements one after the other
mutual
  pub data StmtTree : Type 0 where
    AssignStmt : Place → ℕ → ExprTree → StmtTree
    -- the object, the field, its mark, the class that declares it, and the value
    WriteStmt : Place → ExprTree → ℕ → Mark → ℕ → ExprTree → StmtTree
    WriteElementStmt : Place → ExprTree → ExprTree → ExprTree → StmtTree
    NewStmt : Place → Option ℕ → ℕ → List ExprTree → StmtTree
    NewArrayStmt : Place → Option ℕ → ℕ → ExprTree → StmtTree
    CallStmt : Place → Option ℕ → CalleeTree → List ExprTree → StmtTree
    ReadyStmt : Place → StmtTree
    IfStmt : Place → ExprTree → CodeTree → CodeTree → StmtTree
    -- the invariants, the prelude, the test, the body, and the exposes around it
    LoopStmt : Place → List ExprTree → CodeTree → ExprTree → CodeTree → List ExposedTree → StmtTree
    UnpackStmt : Place → ℕ → ℕ → StmtTree
    PackStmt : Place → ℕ → ℕ → StmtTree
    AssertStmt : Place → ExprTree → StmtTree
    AssumeStmt : Place → ExprTree → StmtTree
    PrintStmt : Place → Option ExprTree → Bool → StmtTree
    PrintTextStmt : Place → List ℕ → Bool → StmtTree
    ReturnStmt : Place → Option ExprTree → StmtTree

  pub data CodeTree : Type 0 where
    NoCode : CodeTree
    Then : StmtTree → CodeTree → CodeTree

-- a local: the bytes of its name, its type, and whether it is a captured parameter
pub record LocalTree : Type 0 where
  pub name : List ℕ
  pub ty : Ty
  pub captured : Bool

-- what a body may change
pub data NamedTree : Type 0 where
  FieldOf : ExprTree → ℕ → NamedTree
  AllOf : ExprTree → NamedTree
  ElementsOf : ExprTree → NamedTree
  UptoOf : ExprTree → ℕ → NamedTree

-- a method or a constructor
pub record BodyTree : Type 0 where
  pub class : ℕ
  pub name : List ℕ
  pub params : List LocalTree
  pub locals : List LocalTree
  pub result : Option Ty
  -- the conditions at entry and at exit
  pub entry : List ExprTree
  pub exit : List ExprTree
  pub named : List NamedTree
  pub flags : BodyFlags
  pub code : CodeTree
  pub place : Place

pub record FieldTree : Type 0 where
  pub name : List ℕ
  pub ty : Ty
  pub mark : Mark

-- a method in a class's table: its name and its body
pub record EntryTree : Type 0 where
  pub name : List ℕ
  pub body : ℕ

-- a declared class
pub record ClassTree : Type 0 where
  pub name : List ℕ
  pub above : ℕ
  pub also : List ℕ
  pub fields : List FieldTree
  pub invariants : List ExprTree
  pub table : List EntryTree

-- a core program; the number of the declared class at place `k` of its list is `4 + 2 k`
pub record CoreTree : Type 0 where
  pub classes : List ClassTree
  pub bodies : List BodyTree
  pub main : ℕ
