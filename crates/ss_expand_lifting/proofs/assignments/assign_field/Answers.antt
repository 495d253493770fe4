use Rattle.std.proofs.Common.{◌≡◌, ap, ◌∙◌}
use Rattle.ss_typed.specs.declared.expr.TypedExpr.{TypedExpr}
use Rattle.ss_typed.specs.Tree.{ExprTree, FieldOf}
use Rattle.ss_typed.specs.View.{expr}
use Rattle.ss_expand_rules.specs.Code.{after}
use Rattle.ss_expand_rules.specs.Simple as simple
use Rattle.ss_expand_expressions.specs.Sources.{stmts_of}
use Rattle.ss_expand_lifting.specs.Contexts.{context_of}
use Rattle.ss_expand_lifting.proofs.assignments.assign_field.Goals as goal

pub returns : goal.returns
returns c =
    let s = context_of c.args.context.now in
    let p = c.args.own.place in
    let before = stmts_of c.args.code.now.statements in
    let e = expr c.args.e.now in
    let kinds = c.args.made.now.items in
    c.in_ok-assign.ensures
    ∙ ap (λ (x : TypedExpr). after before (simple.assign s (expr x) e kinds)) c.deref.ensures
    ∙ ap (λ (x : ExprTree). after before (simple.assign s x e kinds))
    (c.in_ok-target.ensures ∙ ap (λ (o : ExprTree). FieldOf p o c.args.own.field.0 c.args.own.ty) (c.in_ok-this.ensures ∙ c.this_of.ensures))
