-- The tree that a value of the code's types stands for.
use Rattle.std.specs.Prelude.{List, [], ◌∷◌, map, option_map, string_bytes}
use Rattle.ss_core.specs.declared.names.Place.{Place}
use Rattle.ss_core.specs.declared.expr.Expr.{Expr}
use Rattle.ss_core.specs.declared.expr.Expr.TheFolds.{fold-Expr}
use Rattle.ss_core.specs.declared.expr.Expr.TheOpen as shape
use Rattle.ss_core.specs.declared.expr.Expr.TheOpen.{Expr-F, Link-F, Step-F}
use Rattle.ss_core.specs.declared.expr.StateWord.{StateWord}
use Rattle.ss_core.specs.declared.expr.StateWord.TheVariants as word
use Rattle.ss_core.specs.declared.expr.OwnerTest.{OwnerTest}
use Rattle.ss_core.specs.declared.expr.OwnerTest.TheVariants as owners
use Rattle.ss_core.specs.declared.expr.DefaultCondition.{DefaultCondition}
use Rattle.ss_core.specs.declared.expr.DefaultCondition.TheVariants as default
use Rattle.ss_core.specs.declared.stmt.Callee.{Callee}
use Rattle.ss_core.specs.declared.stmt.Callee.TheVariants as callee
use Rattle.ss_core.specs.declared.stmt.Exposed.{Exposed}
use Rattle.ss_core.specs.declared.stmt.Stmt.{Stmt}
use Rattle.ss_core.specs.declared.stmt.Stmt.TheFolds.{fold-Stmt}
use Rattle.ss_core.specs.declared.stmt.Stmt.TheOpen as stmt
use Rattle.ss_core.specs.declared.stmt.Stmt.TheOpen.{Stmt-F, Loop-F}
use Rattle.ss_core.specs.declared.body.Local.{Local}
use Rattle.ss_core.specs.declared.body.Modifies.{Modifies}
use Rattle.ss_core.specs.declared.body.Modifies.TheVariants as modifies
use Rattle.ss_core.specs.declared.body.Body.{Body}
use Rattle.ss_core.specs.declared.body.Core.{Core}
use Rattle.ss_core.specs.declared.class.Field.{Field}
use Rattle.ss_core.specs.declared.class.Entry.{Entry}
use Rattle.ss_core.specs.declared.class.Class.{Class}
use Rattle.ss_core.specs.declared.class.Classes.{Classes}
use Rattle.ss_core.specs.Tree.{WordTree, Consistent, Committed, New, Level, Packed, Unowned, OwnersTree, SameOwner, OwnedAt, DefaultTree, AtLevel, Unpacked, ThisUnowned, Defaults, OwnedFull, Full, ConsistentArgument, FullArgument, Captured, ExprTree, IntExpr, BoolExpr, NullExpr, LocalExpr, FieldExpr, ElementExpr, LengthExpr, NegateExpr, NotExpr, BinaryExpr, ImpliesExpr, IffExpr, IsExpr, AsExpr, CastExpr, OldExpr, QuantifiedExpr, StateExpr, OwnersExpr, DefaultExpr, CalleeTree, Dispatched, Static, Base, BaseConstructor, ExposedTree, StmtTree, AssignStmt, WriteStmt, WriteElementStmt, NewStmt, NewArrayStmt, CallStmt, ReadyStmt, IfStmt, LoopStmt, UnpackStmt, PackStmt, AssertStmt, AssumeStmt, PrintStmt, PrintTextStmt, ReturnStmt, CodeTree, NoCode, Then, LocalTree, NamedTree, FieldOf, AllOf, ElementsOf, UptoOf, BodyTree, FieldTree, EntryTree, ClassTree, CoreTree}

abbrev pub word_tree : StateWord → WordTree
word_tree word.Consistent = Consistent
word_tree word.Committed = Committed
word_tree word.New = New
word_tree (word.Level t) = Level t.0
word_tree (word.Packed t) = Packed t.0
word_tree word.Unowned = Unowned

abbrev pub owners_tree : OwnerTest → OwnersTree
owners_tree owners.Same = SameOwner
owners_tree (owners.Is t) = OwnedAt t.0

abbrev pub default_tree : DefaultCondition → DefaultTree
default_tree (default.AtLevel t) = AtLevel t.0
default_tree default.Unpacked = Unpacked
default_tree default.Unowned = ThisUnowned
default_tree (default.Defaults t) = Defaults t.0
default_tree (default.OwnedFull t) = OwnedFull t.0
default_tree default.Full = Full
default_tree (default.ConsistentArgument x) = ConsistentArgument x
default_tree (default.FullArgument x) = FullArgument x
default_tree (default.Captured x b) = Captured x b

-- what stands after an operand or the beginning of a path makes a larger tree of what stands before it
abbrev pub Behind : Type 0
Behind = Place → ExprTree → ExprTree

abbrev pub grouped : Place → ExprTree → List Behind → ExprTree
grouped p e [] = e
grouped p e (b ∷ bs) = grouped p (b p e) bs

abbrev pub expr_step : Expr-F ExprTree Behind Behind → ExprTree
expr_step (shape.Int p n) = IntExpr p n
expr_step (shape.Bool p b) = BoolExpr p b
expr_step (shape.Null p) = NullExpr p
expr_step (shape.Local p x) = LocalExpr p x
expr_step (shape.Iff p a b) = IffExpr p a.value b.value
expr_step (shape.Implies p a b) = ImpliesExpr p a.value b.value
expr_step (shape.Chain p e links) = grouped p e.value links.items
expr_step (shape.Negate p e) = NegateExpr p e.value
expr_step (shape.Not p e) = NotExpr p e.value
expr_step (shape.Cast p t non_null e) = CastExpr p t.0 non_null e.value
expr_step (shape.Path p e steps) = grouped p e.value steps.items
expr_step (shape.Old p e) = OldExpr p e.value
expr_step (shape.Quantified p q n low high e) = QuantifiedExpr p q (string_bytes n) low.value high.value e.value
expr_step (shape.State p w e) = StateExpr p (word_tree w) e.value
expr_step (shape.Owners p w a b) = OwnersExpr p (owners_tree w) a.value b.value
expr_step (shape.Default p c) = DefaultExpr p (default_tree c)

abbrev pub link_step : Link-F ExprTree Behind Behind → Behind
link_step (shape.Operation op e) p a = BinaryExpr p op a e
link_step (shape.Is t) p a = IsExpr p a t.0
link_step (shape.As t) p a = AsExpr p a t.0

abbrev pub step_step : Step-F ExprTree Behind Behind → Behind
step_step (shape.Field f) p a = FieldExpr p a f.0
step_step (shape.Element e) p a = ElementExpr p a e
step_step shape.Length p a = LengthExpr p a

abbrev pub expr : Expr → ExprTree
expr = fold-Expr ExprTree Behind Behind expr_step link_step step_step

abbrev pub exprs : List Expr → List ExprTree
exprs es = map expr es

abbrev pub callee_tree : Callee → CalleeTree
callee_tree (callee.Dispatched e t m) = Dispatched (expr e) t.0 m
callee_tree (callee.Static n) = Static n.0
callee_tree (callee.Base n) = Base n.0
callee_tree (callee.Constructor n) = BaseConstructor n.0

abbrev pub exposed_tree : Exposed → ExposedTree
exposed_tree e = record { local = e.local; class = e.class.0 }

abbrev pub code_of : List StmtTree → CodeTree
code_of [] = NoCode
code_of (s ∷ ss) = Then s (code_of ss)

abbrev pub loop_step : Loop-F StmtTree StmtTree → StmtTree
loop_step l = LoopStmt l.place (exprs l.invariants.items) (code_of l.prelude.items) (expr l.test) (code_of l.body.items) (map exposed_tree l.exposes.items)

abbrev pub stmt_step : Stmt-F StmtTree StmtTree → StmtTree
stmt_step (stmt.Assign p x e) = AssignStmt p x (expr e)
stmt_step (stmt.Write p o f m t e) = WriteStmt p (expr o) f.0 m t.0 (expr e)
stmt_step (stmt.WriteElement p a i e) = WriteElementStmt p (expr a) (expr i) (expr e)
stmt_step (stmt.New p x t es) = NewStmt p x t.0 (exprs es.items)
stmt_step (stmt.NewArray p x t e) = NewArrayStmt p x t.0 (expr e)
stmt_step (stmt.Call p x c es) = CallStmt p x (callee_tree c) (exprs es.items)
stmt_step (stmt.Ready p) = ReadyStmt p
stmt_step (stmt.If p e a b) = IfStmt p (expr e) (code_of a.items) (code_of b.items)
stmt_step (stmt.Loop l) = l
stmt_step (stmt.Unpack p x t) = UnpackStmt p x t.0
stmt_step (stmt.Pack p x t) = PackStmt p x t.0
stmt_step (stmt.Assert p e) = AssertStmt p (expr e)
stmt_step (stmt.Assume p e) = AssumeStmt p (expr e)
stmt_step (stmt.Print p e b) = PrintStmt p (option_map expr e) b
stmt_step (stmt.PrintText p t b) = PrintTextStmt p t.items b
stmt_step (stmt.Return p e) = ReturnStmt p (option_map expr e)

abbrev pub stmt_of : Stmt → StmtTree
stmt_of = fold-Stmt StmtTree StmtTree stmt_step loop_step

abbrev pub block : List Stmt → CodeTree
block code = code_of (map stmt_of code)

abbrev pub local_of : Local → LocalTree
local_of l = record { name = string_bytes l.name; ty = l.ty; captured = l.captured }

abbrev pub named_of : Modifies → NamedTree
named_of (modifies.Field e f) = FieldOf (expr e) f.0
named_of (modifies.All e) = AllOf (expr e)
named_of (modifies.Elements e) = ElementsOf (expr e)
named_of (modifies.Upto e t) = UptoOf (expr e) t.0

abbrev pub body : Body → BodyTree
body b = record {
  class = b.class.0;
  name = string_bytes b.name;
  params = map local_of b.params.items;
  locals = map local_of b.locals.items;
  result = b.result;
  entry = exprs b.entry.items;
  exit = exprs b.exit.items;
  named = map named_of b.named.items;
  flags = b.flags;
  code = block b.code.items;
  place = b.place;
}

abbrev pub field_of : Field → FieldTree
field_of f = record { name = string_bytes f.name; ty = f.ty; mark = f.mark }

abbrev pub entry_of : Entry → EntryTree
entry_of e = record { name = string_bytes e.name; body = e.body.0 }

abbrev pub class_of : Class → ClassTree
class_of c = record {
  name = string_bytes c.name;
  above = c.above.0;
  also = map (λ t. t.0) c.also.items;
  fields = map field_of c.fields.items;
  invariants = exprs c.invariants.items;
  table = map entry_of c.table.items;
}

abbrev pub classes : Classes → List ClassTree
classes c = map class_of c.list.items

abbrev pub core : Core → CoreTree
core c = record { classes = classes c.classes; bodies = map body c.bodies.items; main = c.main.0 }
