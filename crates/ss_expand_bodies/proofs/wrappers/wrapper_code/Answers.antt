use Rattle.std.proofs.Common.{◌++◌, [], ◌∷◌, map, ap, ◌∙◌}
use Rattle.ss_core.specs.Tree.{LocalExpr, Base, AssignStmt, UnpackStmt, CallStmt, PackStmt, ReturnStmt}
use Rattle.ss_core.specs.View.{exprs, stmt_of}
use Rattle.ss_expand_rules.specs.Bodies as bodies
use Rattle.ss_expand_bodies.proofs.wrappers.wrapper_code.Goals as goal

pub returns : goal.returns
returns c =
    let p = c.args.wrapped.place in
    let x = c.args.x in
    let t = c.args.wrapped.class.0 in
    let head = AssignStmt p x (LocalExpr p 0) ∷ UnpackStmt p x t ∷ [] in
    let call = CallStmt p c.args.outcome (Base c.args.wrapped.body.0) (exprs c.args.arguments.items) ∷ [] in
    let tail = PackStmt p x t ∷ ReturnStmt p (bodies.returned p c.args.outcome) ∷ [] in
    c.in_ok-add_closing.ensures
    ∙ ap (λ ss. ss ++ tail) (c.in_ok-add_call.ensures ∙ ap (λ ss. ss ++ call) (c.in_ok-add_opening.ensures ∙ ap (λ is. map stmt_of is ++ head) c.new-code.ensures.items))
