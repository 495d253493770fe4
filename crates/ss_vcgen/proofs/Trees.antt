-- The tree of each statement.
use Rattle.std.proofs.Common.{◌≡◌, ℕ, Bool, List, map, sym, ap, ◌∙◌, Option}
use Rattle.std.specs.Prelude.{option_map}
use Rattle.std.specs.Global.{Vec}
use Rattle.ss_core.specs.declared.names.ClassId.{ClassId}
use Rattle.ss_core.specs.declared.names.FieldId.{FieldId}
use Rattle.ss_core.specs.declared.names.Mark.{Mark}
use Rattle.ss_core.specs.declared.names.Place.{Place}
use Rattle.ss_core.specs.declared.expr.Expr.{Expr}
use Rattle.ss_core.specs.declared.stmt.Callee.{Callee}
use Rattle.ss_core.specs.declared.stmt.Loop.{Loop, out-Loop}
use Rattle.ss_core.specs.declared.stmt.Stmt.{Stmt}
use Rattle.ss_core.specs.declared.stmt.Stmt.TheFolds.{fold-roll-Stmt}
use Rattle.ss_core.specs.declared.stmt.Stmt.TheOpen as shape
use Rattle.ss_core.specs.declared.stmt.Stmt.TheVariants as stmt
use Rattle.ss_core.specs.Tree.{StmtTree, AssignStmt, WriteStmt, WriteElementStmt, NewStmt, NewArrayStmt, CallStmt, ReadyStmt, LoopStmt, UnpackStmt, PackStmt, AssertStmt, AssumeStmt, PrintStmt, PrintTextStmt, ReturnStmt}
use Rattle.ss_core.specs.View.{expr, exprs, callee_tree, exposed_tree, stmt_step, loop_step, stmt_of, block}
use Rattle.ss_vcgen_known.proofs.Assigning.{loop_is}

pub assign_is : (p : Place) (x : ℕ) (e : Expr) → stmt_of (stmt.Assign p x e) ≡ AssignStmt p x (expr e)
assign_is p x e = ap stmt_of (sym (stmt.rolls-Assign p x e)) ∙ fold-roll-Stmt StmtTree StmtTree stmt_step loop_step (shape.Assign p x e)

pub write_is : (p : Place) (o : Expr) (f : FieldId) (m : Mark) (t : ClassId) (e : Expr) → stmt_of (stmt.Write p o f m t e) ≡ WriteStmt p (expr o) f.0 m t.0 (expr e)
write_is p o f m t e = ap stmt_of (sym (stmt.rolls-Write p o f m t e)) ∙ fold-roll-Stmt StmtTree StmtTree stmt_step loop_step (shape.Write p o f m t e)

pub write_element_is : (p : Place) (a i e : Expr) → stmt_of (stmt.WriteElement p a i e) ≡ WriteElementStmt p (expr a) (expr i) (expr e)
write_element_is p a i e = ap stmt_of (sym (stmt.rolls-WriteElement p a i e)) ∙ fold-roll-Stmt StmtTree StmtTree stmt_step loop_step (shape.WriteElement p a i e)

pub new_is : (p : Place) (x : Option ℕ) (t : ClassId) (es : Vec Expr) → stmt_of (stmt.New p x t es) ≡ NewStmt p x t.0 (exprs es.items)
new_is p x t es = ap stmt_of (sym (stmt.rolls-New p x t es)) ∙ fold-roll-Stmt StmtTree StmtTree stmt_step loop_step (shape.New p x t es)

pub new_array_is : (p : Place) (x : Option ℕ) (t : ClassId) (e : Expr) → stmt_of (stmt.NewArray p x t e) ≡ NewArrayStmt p x t.0 (expr e)
new_array_is p x t e = ap stmt_of (sym (stmt.rolls-NewArray p x t e)) ∙ fold-roll-Stmt StmtTree StmtTree stmt_step loop_step (shape.NewArray p x t e)

pub call_is : (p : Place) (x : Option ℕ) (c : Callee) (es : Vec Expr) → stmt_of (stmt.Call p x c es) ≡ CallStmt p x (callee_tree c) (exprs es.items)
call_is p x c es = ap stmt_of (sym (stmt.rolls-Call p x c es)) ∙ fold-roll-Stmt StmtTree StmtTree stmt_step loop_step (shape.Call p x c es)

pub ready_is : (p : Place) → stmt_of (stmt.Ready p) ≡ ReadyStmt p
ready_is p = ap stmt_of (sym (stmt.rolls-Ready p)) ∙ fold-roll-Stmt StmtTree StmtTree stmt_step loop_step (shape.Ready p)

pub unpack_is : (p : Place) (x : ℕ) (t : ClassId) → stmt_of (stmt.Unpack p x t) ≡ UnpackStmt p x t.0
unpack_is p x t = ap stmt_of (sym (stmt.rolls-Unpack p x t)) ∙ fold-roll-Stmt StmtTree StmtTree stmt_step loop_step (shape.Unpack p x t)

pub pack_is : (p : Place) (x : ℕ) (t : ClassId) → stmt_of (stmt.Pack p x t) ≡ PackStmt p x t.0
pack_is p x t = ap stmt_of (sym (stmt.rolls-Pack p x t)) ∙ fold-roll-Stmt StmtTree StmtTree stmt_step loop_step (shape.Pack p x t)

pub assert_is : (p : Place) (e : Expr) → stmt_of (stmt.Assert p e) ≡ AssertStmt p (expr e)
assert_is p e = ap stmt_of (sym (stmt.rolls-Assert p e)) ∙ fold-roll-Stmt StmtTree StmtTree stmt_step loop_step (shape.Assert p e)

pub assume_is : (p : Place) (e : Expr) → stmt_of (stmt.Assume p e) ≡ AssumeStmt p (expr e)
assume_is p e = ap stmt_of (sym (stmt.rolls-Assume p e)) ∙ fold-roll-Stmt StmtTree StmtTree stmt_step loop_step (shape.Assume p e)

pub print_is : (p : Place) (e : Option Expr) (b : Bool) → stmt_of (stmt.Print p e b) ≡ PrintStmt p (option_map expr e) b
print_is p e b = ap stmt_of (sym (stmt.rolls-Print p e b)) ∙ fold-roll-Stmt StmtTree StmtTree stmt_step loop_step (shape.Print p e b)

pub print_text_is : (p : Place) (t : Vec ℕ) (b : Bool) → stmt_of (stmt.PrintText p t b) ≡ PrintTextStmt p t.items b
print_text_is p t b = ap stmt_of (sym (stmt.rolls-PrintText p t b)) ∙ fold-roll-Stmt StmtTree StmtTree stmt_step loop_step (shape.PrintText p t b)

pub return_is : (p : Place) (e : Option Expr) → stmt_of (stmt.Return p e) ≡ ReturnStmt p (option_map expr e)
return_is p e = ap stmt_of (sym (stmt.rolls-Return p e)) ∙ fold-roll-Stmt StmtTree StmtTree stmt_step loop_step (shape.Return p e)

pub looped_is : (l : Loop) → stmt_of (stmt.Loop l) ≡ LoopStmt (out-Loop l).place (exprs (out-Loop l).invariants.items) (block (out-Loop l).prelude.items) (expr (out-Loop l).test) (block (out-Loop l).body.items) (map exposed_tree (out-Loop l).exposes.items)
looped_is l = ap stmt_of (sym (stmt.rolls-Loop l)) ∙ fold-roll-Stmt StmtTree StmtTree stmt_step loop_step (shape.Loop l) ∙ loop_is l
