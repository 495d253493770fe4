use Rattle.std.proofs.Common.{◌≡◌, suc, map, drop, sym, ap, ◌∙◌, add-one}
use Rattle.ss_typed.specs.View.{declarator}
use Rattle.ss_expand_rules.specs.Code.{after}
use Rattle.ss_expand_rules.specs.Simple as simple
use Rattle.ss_expand_expressions.specs.Sources.{stmts_of}
use Rattle.ss_ast.proofs.Loops.{drop_item}
use Rattle.ss_expand_lifting.specs.Contexts.{context_of}
use Rattle.ss_expand_lifting.proofs.Statements.{declared_next}
use Rattle.ss_expand_lifting.proofs.simple.declare.Goals as goal

pub loop-declarator-preserved : goal.loop-declarator-preserved
loop-declarator-preserved c =
    let s = context_of c.args.context.now in
    let ds = c.args.declarators.now in
    let i = c.loop-declarator.declarator-index in
    let d = c.declarator-item.result in
    let now = stmts_of c.loop-declarator.code.statements in
    let kinds = c.loop-declarator.made.items in
    ap (λ k. after (stmts_of c.declare_one.new.code.statements) (simple.declare s (map declarator (drop k ds)) c.declare_one.new.made.items)) (add-one i)
    ∙ declared_next s (declarator d) (map declarator (drop (suc i) ds)) now _ kinds _ c.in_ok-declare_one.ensures
    ∙ ap (λ xs. after now (simple.declare s (map declarator xs) kinds)) (sym (drop_item ds i d c.loop-declarator-test.true c.declarator-item.is))
    ∙ c.loop-declarator.invariant
