use Rattle.std.proofs.Common.{◌≡◌, Some, None, ap, ◌∙◌}
use Rattle.ss_typed.specs.declared.expr.TypedExpr.{TypedExpr}
use Rattle.ss_typed.specs.Shapes.{place_of}
use Rattle.ss_typed.specs.Tree.{BinaryOf}
use Rattle.ss_typed.specs.View.{expr}
use Rattle.ss_expand_rules.specs.Code.{after}
use Rattle.ss_expand_rules.specs.Simple as simple
use Rattle.ss_expand_expressions.specs.Sources.{stmts_of}
use Rattle.ss_expand_lifting.specs.Contexts.{context_of}
use Rattle.ss_expand_lifting.proofs.Statements.{update_is_after, kept_target}
use Rattle.ss_expand_lifting.proofs.assignments.update.Goals as goal

pub returns-in_ok-update_settled-in-Some : goal.returns-in_ok-update_settled-in-Some
returns-in_ok-update_settled-in-Some c =
    let s = context_of c.args.context.now in
    let o = c.args.operator in
    let e = expr c.args.e.now in
    let now = stmts_of c.settle.new.code.statements in
    let made = c.settle.new.made.items in
    update_is_after s o e (stmts_of c.args.code.now.statements) _ _ _ (simple.settle s (expr c.args.target.now) c.args.made.now.items) _
    (kept_target (expr c.args.target.now) _ _ _ (Some c.in-Some.settled) _ c.in-Some.is c.in_ok-kept.ensures)
    (c.in_ok-update_settled-in-Some.ensures ∙ ap (λ (x : TypedExpr). after now (simple.assign_settled s (expr x) (BinaryOf (place_of (expr x)) o (expr x) e) made)) c.deref.ensures)

pub returns-in_ok-update_settled-in-None : goal.returns-in_ok-update_settled-in-None
returns-in_ok-update_settled-in-None c =
    let s = context_of c.args.context.now in
    update_is_after s c.args.operator (expr c.args.e.now) (stmts_of c.args.code.now.statements) _ _ _ (simple.settle s (expr c.args.target.now) c.args.made.now.items) _
    (kept_target (expr c.args.target.now) _ _ _ None _ c.in-None.is c.in_ok-kept.ensures) c.in_ok-update_settled-in-None.ensures
