-- The locals that parts of a statement assign.
use Rattle.std.proofs.Common.{◌≡◌, Bool, true, false, List, map, refl, sym, ap, ◌∙◌}
use Rattle.std.specs.Prelude.{◌&&◌, ◌||◌, not}
use Rattle.std.specs.Global.{Vec}
use Rattle.ss_core.specs.declared.expr.Expr.{Expr}
use Rattle.ss_core.specs.declared.stmt.Stmt.{Stmt}
use Rattle.ss_core.specs.declared.stmt.Loop.{Loop, out-Loop}
use Rattle.ss_core.specs.declared.stmt.Stmt.TheFolds.{fold-roll-Stmt, fold_out-Loop}
use Rattle.ss_core.specs.declared.stmt.Stmt.TheOpen as shape
use Rattle.ss_core.specs.declared.stmt.Stmt.TheVariants as stmt
use Rattle.ss_core.specs.View.{expr, exprs, exposed_tree, stmt_step, loop_step, stmt_of, block}
use Rattle.ss_core.specs.declared.names.Place.{Place}
use Rattle.ss_core.specs.Tree.{ExprTree, ExposedTree, StmtTree, IfStmt, LoopStmt, CodeTree, Then}
use Rattle.ss_store_rules.specs.Locals.{assigns, is_target, each, each_inside}
use Rattle.ss_store_rules.specs.NonNull.{Facts, both}
use Rattle.ss_vcgen_known.specs.Assigns.{assigns_in, loop_of}

not_both : (f a b : Bool) → ((f || not a) || not b) ≡ (f || not (a && b))
not_both true a b = refl
not_both false true b = refl
not_both false false b = refl

pub if_assigns : (p : Place) (e : ExprTree) (a b : CodeTree) (f : Facts) → both (both f (assigns_in a)) (assigns_in b) ≡ both f (assigns (IfStmt p e a b))
if_assigns p e a b f = λ i y. not_both (f y) (each (λ u. not (is_target u y)) a) (each (λ u. not (is_target u y)) b) i

pub loop_assigns : (p : Place) (asked : List ExprTree) (a : CodeTree) (e : ExprTree) (b : CodeTree) (xs : List ExposedTree) (f : Facts) → both (both f (assigns_in a)) (assigns_in b) ≡ both f (assigns (LoopStmt p asked a e b xs))
loop_assigns p asked a e b xs f = λ i y. not_both (f y) (each (λ u. not (is_target u y)) a) (each (λ u. not (is_target u y)) b) i

-- one statement of some code
pub one_put : (s : StmtTree) (code : CodeTree) (f : Facts) → both (both f (assigns s)) (assigns_in code) ≡ both f (assigns_in (Then s code))
one_put s code f = λ i y. not_both (f y) (each_inside (λ u. not (is_target u y)) s) (each (λ u. not (is_target u y)) code) i

-- ---- the trees of an `if` and of a loop

pub if_is : (p : Place) (e : Expr) (a b : Vec Stmt) → stmt_of (stmt.If p e a b) ≡ IfStmt p (expr e) (block a.items) (block b.items)
if_is p e a b = ap stmt_of (sym (stmt.rolls-If p e a b)) ∙ fold-roll-Stmt StmtTree StmtTree stmt_step loop_step (shape.If p e a b)

pub loop_is : (l : Loop) → loop_of l ≡ LoopStmt (out-Loop l).place (exprs (out-Loop l).invariants.items) (block (out-Loop l).prelude.items) (expr (out-Loop l).test) (block (out-Loop l).body.items) (map exposed_tree (out-Loop l).exposes.items)
loop_is l = fold_out-Loop StmtTree StmtTree stmt_step loop_step l
