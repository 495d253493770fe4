-- The tree that a value of the code's types stands for.
use Rattle.std.specs.Prelude.{List, [], ◌∷◌, Option, Some, None, map, option_map, string_bytes}
use Rattle.ss_core.specs.declared.names.Place.{Place}
use Rattle.ss_ast.specs.Expressions.{name_tree}
use Rattle.ss_core.specs.View.{word_tree, owners_tree, local_of, classes}
use Rattle.ss_typed.specs.declared.expr.TypedExpr.{TypedExpr}
use Rattle.ss_typed.specs.declared.expr.TypedExpr.TheFolds.{fold-TypedExpr}
use Rattle.ss_typed.specs.declared.expr.TypedExpr.TheOpen as shape
use Rattle.ss_typed.specs.declared.expr.TypedExpr.TheOpen.{TypedExpr-F, TypedLink-F, TypedStep-F}
use Rattle.ss_typed.specs.declared.stmt.TypedDeclarator.{TypedDeclarator}
use Rattle.ss_typed.specs.declared.stmt.TypedSimple.{TypedSimple}
use Rattle.ss_typed.specs.declared.stmt.TypedSimple.TheVariants as simple
use Rattle.ss_typed.specs.declared.stmt.TypedInit.{TypedInit}
use Rattle.ss_typed.specs.declared.stmt.TypedInit.TheVariants as init
use Rattle.ss_typed.specs.declared.stmt.TypedBlock.{TypedBlock}
use Rattle.ss_typed.specs.declared.stmt.TypedStmt.{TypedStmt}
use Rattle.ss_typed.specs.declared.stmt.TypedStmt.TheFolds.{fold-TypedBlock, fold-TypedStmt}
use Rattle.ss_typed.specs.declared.stmt.TypedStmt.TheOpen as stmt
use Rattle.ss_typed.specs.declared.stmt.TypedStmt.TheOpen.{TypedBlock-F, TypedStmt-F}
use Rattle.ss_typed.specs.declared.body.TypedParam.{TypedParam}
use Rattle.ss_typed.specs.declared.body.TypedModifies.{TypedModifies}
use Rattle.ss_typed.specs.declared.body.TypedModifies.TheVariants as modifies
use Rattle.ss_typed.specs.declared.body.TypedBase.{TypedBase}
use Rattle.ss_typed.specs.declared.body.TypedBody.{TypedBody}
use Rattle.ss_typed.specs.declared.program.TypedField.{TypedField}
use Rattle.ss_typed.specs.declared.program.TypedInvariant.{TypedInvariant}
use Rattle.ss_typed.specs.declared.program.TypedClass.{TypedClass}
use Rattle.ss_typed.specs.declared.program.Typed.{Typed}
use Rattle.ss_typed.specs.Tree.{ExprTree, IntOf, BoolOf, NullOf, ThisOf, LocalOf, ResultOf, BoundOf, IffOf, ImpliesOf, BinaryOf, IsOf, AsOf, NegateOf, NotOf, CastOf, FieldOf, ElementOf, LengthOf, OldOf, QuantifiedOf, StateOf, OwnersOf, NewOf, NewArrayOf, CallOf, StaticOf, BaseOf, arguments, DeclaratorTree, SimpleTree, AssignOf, StepOf, AloneOf, PrintOf, PrintTextOf, BaseCallOf, InitTree, DeclareFirst, SimpleFirst, BlockTree, BlockOf, StmtTree, InBlock, DeclareOf, SimpleOf, IfOf, IfElseOf, WhileOf, ForOf, ReturnOf, AssertOf, AssumeOf, ExposeOf, EmptyOf, stmt_trees, ParamTree, ModifiedTree, OneOf, AllOf, ElementsOf, BaseTree, BodyTree, FieldTree, InvariantTree, MembersTree, TypedTree}

-- what stands after an operand or the beginning of a path makes a larger tree of what stands before it
abbrev pub Behind : Type 0
Behind = Place → ExprTree → ExprTree

abbrev pub grouped : Place → ExprTree → List Behind → ExprTree
grouped p e [] = e
grouped p e (b ∷ bs) = grouped p (b p e) bs

abbrev pub expr_step : TypedExpr-F ExprTree Behind Behind → ExprTree
expr_step (shape.Int p n) = IntOf p n
expr_step (shape.Bool p b) = BoolOf p b
expr_step (shape.Null p) = NullOf p
expr_step (shape.This p t) = ThisOf p t.0
expr_step (shape.Local p x t) = LocalOf p x t
expr_step (shape.Result p t) = ResultOf p t
expr_step (shape.Bound p n) = BoundOf p n
expr_step (shape.Iff p a b) = IffOf p a.value b.value
expr_step (shape.Implies p a b) = ImpliesOf p a.value b.value
expr_step (shape.Chain p e links) = grouped p e.value links.items
expr_step (shape.Negate p e) = NegateOf p e.value
expr_step (shape.Not p e) = NotOf p e.value
expr_step (shape.Cast p t non_null e) = CastOf p t.0 non_null e.value
expr_step (shape.Path p e steps) = grouped p e.value steps.items
expr_step (shape.Old p e) = OldOf p e.value
expr_step (shape.Quantified p q n low high e) = QuantifiedOf p q (string_bytes n) low.value high.value e.value
expr_step (shape.State p w e) = StateOf p (word_tree w) e.value
expr_step (shape.Owners p w a b) = OwnersOf p (owners_tree w) a.value b.value
expr_step (shape.New p t es) = NewOf p t.0 (arguments es.items)
expr_step (shape.NewArray p t e) = NewArrayOf p t.0 e.value
expr_step (shape.Static p n t es) = StaticOf p n.0 t (arguments es.items)
expr_step (shape.Base p m t es) = BaseOf p m t (arguments es.items)

abbrev pub link_step : TypedLink-F ExprTree Behind Behind → Behind
link_step (shape.Operation op e) p a = BinaryOf p op a e
link_step (shape.Is t) p a = IsOf p a t.0
link_step (shape.As t) p a = AsOf p a t.0

abbrev pub step_step : TypedStep-F ExprTree Behind Behind → Behind
step_step (shape.Field f t) p a = FieldOf p a f.0 t
step_step (shape.Element e) p a = ElementOf p a e
step_step shape.Length p a = LengthOf p a
step_step (shape.Call m t es) p a = CallOf p a m t (arguments es.items)

abbrev pub expr : TypedExpr → ExprTree
expr = fold-TypedExpr ExprTree Behind Behind expr_step link_step step_step

abbrev pub exprs : List TypedExpr → List ExprTree
exprs es = map expr es

abbrev pub declarator : TypedDeclarator → DeclaratorTree
declarator d = record { place = d.place; local = d.local; ty = d.ty; initial = option_map expr d.initial }

abbrev pub simple_of : TypedSimple → SimpleTree
simple_of (simple.Assign a op b) = AssignOf (expr a) op (expr b)
simple_of (simple.Step a op) = StepOf (expr a) op
simple_of (simple.Alone a) = AloneOf (expr a)
simple_of (simple.Print p e line) = PrintOf p (option_map expr e) line
simple_of (simple.PrintText p t line) = PrintTextOf p t.items line
simple_of (simple.Base p es) = BaseCallOf p (arguments (exprs es.items))

abbrev pub init_of : TypedInit → InitTree
init_of (init.Declare ds) = DeclareFirst (map declarator ds.items)
init_of (init.Simple s) = SimpleFirst (simple_of s)

abbrev pub block_step : TypedBlock-F StmtTree BlockTree → BlockTree
block_step b = BlockOf b.place (stmt_trees b.statements.items) b.end

abbrev pub stmt_step : TypedStmt-F StmtTree BlockTree → StmtTree
stmt_step (stmt.Block b) = InBlock b
stmt_step (stmt.Declare ds) = DeclareOf (map declarator ds.items)
stmt_step (stmt.Simple s) = SimpleOf (simple_of s)
stmt_step (stmt.If p e a None) = IfOf p (expr e) a.value
stmt_step (stmt.If p e a (Some b)) = IfElseOf p (expr e) a.value b.value
stmt_step (stmt.While p e es a) = WhileOf p (expr e) (exprs es.items) a.value
stmt_step (stmt.For p i e s es a) = ForOf p (option_map init_of i) (option_map expr e) (option_map simple_of s) (exprs es.items) a.value
stmt_step (stmt.Return p e) = ReturnOf p (option_map expr e)
stmt_step (stmt.Assert p e) = AssertOf p (expr e)
stmt_step (stmt.Assume p e) = AssumeOf p (expr e)
stmt_step (stmt.Expose p e t b) = ExposeOf p (expr e) (option_map (λ t. t.0) t) b
stmt_step (stmt.Empty p) = EmptyOf p

abbrev pub block : TypedBlock → BlockTree
block = fold-TypedBlock StmtTree BlockTree stmt_step block_step

abbrev pub stmt_of : TypedStmt → StmtTree
stmt_of = fold-TypedStmt StmtTree BlockTree stmt_step block_step

abbrev pub param : TypedParam → ParamTree
param p = record { name = string_bytes p.name; place = p.place; ty = p.ty; captured = p.captured; attributes = map name_tree p.attributes.items }

abbrev pub modified : TypedModifies → ModifiedTree
modified (modifies.Field e f) = OneOf (expr e) f.0
modified (modifies.All e) = AllOf (expr e)
modified (modifies.Elements e) = ElementsOf (expr e)

abbrev pub base : TypedBase → BaseTree
base b = record { place = b.place; arguments = arguments (exprs b.arguments.items) }

abbrev pub body : TypedBody → BodyTree
body b = record {
  class = b.class.0;
  name = string_bytes b.name;
  place = b.place;
  flags = b.flags;
  attributes = map name_tree b.attributes.items;
  params = map param b.params.items;
  locals = map local_of b.locals.items;
  result = b.result;
  entry = exprs b.entry.items;
  exit = exprs b.exit.items;
  modifies = option_map (λ ms. map modified ms.items) b.modifies;
  base = option_map base b.base;
  block = block b.block;
}

abbrev pub field : TypedField → FieldTree
field f = record { place = f.place; attributes = map name_tree f.attributes.items; initial = option_map expr f.initial }

abbrev pub invariant_of : TypedInvariant → InvariantTree
invariant_of i = record { attributes = map name_tree i.attributes.items; condition = expr i.condition }

abbrev pub members : TypedClass → MembersTree
members c = record {
  place = c.place;
  constructor = option_map (λ n. n.0) c.constructor;
  fields = map field c.fields.items;
  invariants = map invariant_of c.invariants.items;
}

abbrev pub typed : Typed → TypedTree
typed t = record { classes = classes t.classes; members = map members t.members.items; bodies = map body t.bodies.items; main = t.main.0 }
