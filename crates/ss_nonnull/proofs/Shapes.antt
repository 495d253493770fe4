-- The trees of statements, by their form.
use Rattle.std.proofs.Common.{◌≡◌, map, Option, Some, None, Vec, Box, Global, sym, ap, ◌∙◌}
use Rattle.std.specs.Prelude.{option_map}
use Rattle.ss_core.specs.declared.names.Place.{Place}
use Rattle.ss_core.specs.declared.names.ClassId.{ClassId}
use Rattle.ss_typed.specs.declared.expr.TypedExpr.{TypedExpr}
use Rattle.ss_typed.specs.declared.stmt.TypedBlock.{TypedBlock}
use Rattle.ss_typed.specs.declared.stmt.TypedDeclarator.{TypedDeclarator}
use Rattle.ss_typed.specs.declared.stmt.TypedInit.{TypedInit}
use Rattle.ss_typed.specs.declared.stmt.TypedSimple.{TypedSimple}
use Rattle.ss_typed.specs.declared.stmt.TypedStmt.{TypedStmt}
use Rattle.ss_typed.specs.declared.stmt.TypedStmt.TheFolds.{fold-roll-TypedStmt}
use Rattle.ss_typed.specs.declared.stmt.TypedStmt.TheOpen as shape
use Rattle.ss_typed.specs.declared.stmt.TypedStmt.TheViews as view
use Rattle.ss_typed.specs.declared.stmt.TypedStmt.TheVariants as stmt
use Rattle.ss_typed.specs.Tree.{BlockTree, StmtTree, InBlock, DeclareOf, SimpleOf, IfOf, IfElseOf, WhileOf, ForOf, ReturnOf, AssertOf, AssumeOf, ExposeOf, EmptyOf}
use Rattle.ss_typed.specs.View.{block_step, stmt_step, block, stmt_of, declarator, simple_of, init_of, expr, exprs}

pub block_shape : (b : TypedBlock) → stmt_of (view.Block b) ≡ InBlock (block b)
block_shape b = ap stmt_of (sym (stmt.rolls-Block b)) ∙ fold-roll-TypedStmt StmtTree BlockTree stmt_step block_step (shape.Block b)

pub declare_shape : (ds : Vec TypedDeclarator Global) → stmt_of (stmt.Declare ds) ≡ DeclareOf (map declarator ds.items)
declare_shape ds = ap stmt_of (sym (stmt.rolls-Declare ds)) ∙ fold-roll-TypedStmt StmtTree BlockTree stmt_step block_step (shape.Declare ds)

pub simple_shape : (s : TypedSimple) → stmt_of (stmt.Simple s) ≡ SimpleOf (simple_of s)
simple_shape s = ap stmt_of (sym (stmt.rolls-Simple s)) ∙ fold-roll-TypedStmt StmtTree BlockTree stmt_step block_step (shape.Simple s)

pub if_shape : (p : Place) (e : TypedExpr) (a : Box TypedStmt Global) (o : Option (Box TypedStmt Global)) → o ≡ None → stmt_of (view.If p e a o) ≡ IfOf p (expr e) (stmt_of a.value)
if_shape p e a o is =
    ap (λ (x : Option (Box TypedStmt Global)). stmt_of (view.If p e a x)) is
    ∙ ap stmt_of (sym (stmt.rolls-If p e a None)) ∙ fold-roll-TypedStmt StmtTree BlockTree stmt_step block_step (shape.If p e a None)

pub else_shape : (p : Place) (e : TypedExpr) (a b : Box TypedStmt Global) (o : Option (Box TypedStmt Global)) → o ≡ Some b → stmt_of (view.If p e a o) ≡ IfElseOf p (expr e) (stmt_of a.value) (stmt_of b.value)
else_shape p e a b o is =
    ap (λ (x : Option (Box TypedStmt Global)). stmt_of (view.If p e a x)) is
    ∙ ap stmt_of (sym (stmt.rolls-If p e a (Some b))) ∙ fold-roll-TypedStmt StmtTree BlockTree stmt_step block_step (shape.If p e a (Some b))

pub while_shape : (p : Place) (e : TypedExpr) (es : Vec TypedExpr Global) (a : Box TypedStmt Global) → stmt_of (view.While p e es a) ≡ WhileOf p (expr e) (exprs es.items) (stmt_of a.value)
while_shape p e es a = ap stmt_of (sym (stmt.rolls-While p e es a)) ∙ fold-roll-TypedStmt StmtTree BlockTree stmt_step block_step (shape.While p e es a)

pub for_shape : (p : Place) (i : Option TypedInit) (e : Option TypedExpr) (s : Option TypedSimple) (es : Vec TypedExpr Global) (a : Box TypedStmt Global)
    → stmt_of (view.For p i e s es a) ≡ ForOf p (option_map init_of i) (option_map expr e) (option_map simple_of s) (exprs es.items) (stmt_of a.value)
for_shape p i e s es a = ap stmt_of (sym (stmt.rolls-For p i e s es a)) ∙ fold-roll-TypedStmt StmtTree BlockTree stmt_step block_step (shape.For p i e s es a)

pub return_shape : (p : Place) (e : Option TypedExpr) → stmt_of (stmt.Return p e) ≡ ReturnOf p (option_map expr e)
return_shape p e = ap stmt_of (sym (stmt.rolls-Return p e)) ∙ fold-roll-TypedStmt StmtTree BlockTree stmt_step block_step (shape.Return p e)

pub assert_shape : (p : Place) (e : TypedExpr) → stmt_of (stmt.Assert p e) ≡ AssertOf p (expr e)
assert_shape p e = ap stmt_of (sym (stmt.rolls-Assert p e)) ∙ fold-roll-TypedStmt StmtTree BlockTree stmt_step block_step (shape.Assert p e)

pub assume_shape : (p : Place) (e : TypedExpr) → stmt_of (stmt.Assume p e) ≡ AssumeOf p (expr e)
assume_shape p e = ap stmt_of (sym (stmt.rolls-Assume p e)) ∙ fold-roll-TypedStmt StmtTree BlockTree stmt_step block_step (shape.Assume p e)

pub expose_shape : (p : Place) (e : TypedExpr) (t : Option ClassId) (b : TypedBlock) → stmt_of (view.Expose p e t b) ≡ ExposeOf p (expr e) (option_map (λ (c : ClassId). c.0) t) (block b)
expose_shape p e t b = ap stmt_of (sym (stmt.rolls-Expose p e t b)) ∙ fold-roll-TypedStmt StmtTree BlockTree stmt_step block_step (shape.Expose p e t b)

pub empty_shape : (p : Place) → stmt_of (stmt.Empty p) ≡ EmptyOf p
empty_shape p = ap stmt_of (sym (stmt.rolls-Empty p)) ∙ fold-roll-TypedStmt StmtTree BlockTree stmt_step block_step (shape.Empty p)
