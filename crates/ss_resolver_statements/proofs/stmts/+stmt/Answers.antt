use Rattle.std.proofs.Common.{map, refl, ◌∙◌}
use Rattle.ss_ast.specs.Expressions.{expr_tree}
use Rattle.ss_ast.specs.Statements.{stmt_tree, for_init_tree, simple_tree}
use Rattle.std.specs.Prelude.{option_map}
use Rattle.ss_resolver_statements.proofs.Blocks.{block_whole, block_after}
use Rattle.ss_resolver_statements.proofs.Left.{governed_left, for_left}
use Rattle.ss_resolver_statements.proofs.Governed.{if_is, while_is, for_is}
use Rattle.ss_resolver_statements.proofs.stmts.+stmt.Goals as goal

pub resolve_block-returns-clause-tree : goal.resolve_block-returns-clause-tree
resolve_block-returns-clause-tree t c =
    block_whole c.args.context.now c.args.names.now _ c.args.block.now c.deref.result.now _ _ c.in_ok-enter.ensures c.deref.ensures.value c.in_ok-statements.ensures.trees c.block_of.ensures

pub resolve_block-returns-clause-behind : goal.resolve_block-returns-clause-behind
resolve_block-returns-clause-behind t c =
    block_after c.args.context.now c.args.names.now _ _ _ c.args.block.now c.deref.result.now c.in_ok-enter.ensures c.deref.ensures.value c.in_ok-statements.ensures.behind c.leave.ensures

pub resolve_governed-returns-clause-behind : goal.resolve_governed-returns-clause-behind
resolve_governed-returns-clause-behind t c =
    governed_left c.args.context.now c.args.names.now _ _ _ (stmt_tree c.args.stmt.now) c.in_ok-enter.ensures c.in_ok-resolved.ensures.behind c.leave.ensures

pub resolve_if-returns-clause-tree : goal.resolve_if-returns-clause-tree
resolve_if-returns-clause-tree t c =
    c.in_ok-whole.ensures
    ∙ if_is c.args.context.now c.args.names.now _ c.args.place (expr_tree c.args.test.now) (stmt_tree c.args.body.now) _ _ c.in_ok-test.ensures.tree c.in_ok-test.ensures.kept c.in_ok-body.ensures.tree

pub resolve_while-returns-clause-tree : goal.resolve_while-returns-clause-tree
resolve_while-returns-clause-tree t c =
    c.in_ok-whole.ensures
    ∙ while_is c.args.context.now c.args.names.now _ _ c.args.place (expr_tree c.args.test.now) (map expr_tree c.args.invariants.now) (stmt_tree c.args.body.now) _ _ _
    c.in_ok-test.ensures.tree c.in_ok-test.ensures.kept c.in_ok-guarded.ensures.invariants refl c.in_ok-guarded.ensures.body

pub resolve_for-returns-clause-tree : goal.resolve_for-returns-clause-tree
resolve_for-returns-clause-tree t c =
    let h = c.in_ok-heading.ensures in
    let g = c.in_ok-guarded.ensures in
    c.in_ok-whole.ensures
    ∙ for_is c.args.context.now c.args.names.now _ _ c.args.place (option_map for_init_tree c.args.written.first.now) (option_map expr_tree c.args.written.test.now) (option_map simple_tree c.args.written.step.now)
    (map expr_tree c.args.invariants.now) (stmt_tree c.args.body.now) _ _ _ _ _
    c.in_ok-enter.ensures h.first h.test h.step h.behind g.invariants g.body

pub resolve_for-returns-clause-behind : goal.resolve_for-returns-clause-behind
resolve_for-returns-clause-behind t c =
    for_left c.args.context.now c.args.names.now _ _ _ _ (option_map for_init_tree c.args.written.first.now) (stmt_tree c.args.body.now)
    c.in_ok-enter.ensures c.in_ok-heading.ensures.behind c.in_ok-guarded.ensures.behind c.leave.ensures
