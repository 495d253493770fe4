use Rattle.std.proofs.Common.{◌∷◌, [], ◌++◌, List, map, ap, ◌∙◌}
use Rattle.ss_core.specs.Tree as core
use Rattle.ss_core.specs.Tree.{LoopStmt}
use Rattle.ss_core.specs.View as view
use Rattle.ss_core.specs.View.{expr, code_of, exposed_tree}
use Rattle.ss_core.specs.declared.expr.Expr.{Expr}
use Rattle.ss_typed.specs.View.{exprs}
use Rattle.ss_expand_rules.specs.Numbers.{all_plain}
use Rattle.ss_expand_rules.specs.Statements.{exposed}
use Rattle.ss_expand_expressions.specs.Views.{numbers_of}
use Rattle.ss_expand_expressions.specs.Sources.{stmts_of}
use Rattle.ss_expand_bodies.specs.Exposes.{opened_of}
use Rattle.ss_expand_programs.proofs.looping.add_loop.Goals as goal

pub returns : goal.returns
returns c =
    let before = stmts_of c.args.code.now.statements in
    let with = λ (e : Expr) (es : List core.ExprTree) (xs : List core.ExposedTree). LoopStmt c.args.place es (code_of (stmts_of c.args.head.prelude.statements)) (expr e) (code_of (stmts_of c.args.turn.statements)) xs in
    let at = with c.args.head.test.value in
    let es = all_plain (numbers_of c.args.context.now.numbers.now) (exprs c.args.invariants.now) in
    c.in_ok-add.ensures
    ∙ ap (λ (x : core.StmtTree). before ++ x ∷ [])
    (c.loop_of-made.ensures
    ∙ ap (λ (e : Expr). with e (view.exprs c.in_ok-invariants.invariants.items) (map exposed_tree c.in_ok-exposes.exposes.items)) c.into_inner-test.ensures
    ∙ ap (λ (is : List core.ExprTree). at is (map exposed_tree c.in_ok-exposes.exposes.items)) c.in_ok-invariants.ensures
    ∙ ap (λ (xs : List core.ExposedTree). at es xs) (c.in_ok-exposes.ensures ∙ ap (λ os. map exposed (map opened_of os)) c.deref.ensures.value))
