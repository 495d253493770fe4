use Rattle.std.specs.Prelude.{option_map}
use Rattle.ss_ast.specs.Expressions.{expr_tree}
use Rattle.ss_ast.specs.Statements.{simple_tree}
use Rattle.ss_resolver_statements.proofs.Governed.{test_is, step_is}
use Rattle.ss_resolver_statements.proofs.stmts.resolve_heading.Goals as goal

pub returns-clause-test : goal.returns-clause-test
returns-clause-test c =
    test_is c.args.context.now _ _ (option_map expr_tree c.args.test.now) _ c.in_ok-first.ensures.behind c.in_ok-test.ensures.tree

pub returns-clause-step : goal.returns-clause-step
returns-clause-step c =
    step_is c.args.context.now _ _ _ (option_map simple_tree c.args.step.now) _ c.in_ok-first.ensures.behind c.in_ok-test.ensures.kept c.in_ok-step.ensures.tree
