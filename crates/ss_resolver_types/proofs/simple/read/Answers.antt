use Rattle.ss_ast.specs.Expressions.{expr_tree}
use Rattle.ss_resolver_types_expressions.proofs.Walks.{known_read, noted_read}
use Rattle.ss_resolver_types.proofs.simple.read.Goals as goal

pub returns-clause-known : goal.returns-clause-known
returns-clause-known c =
    known_read c.args.context.now c.args.locals.now _ _ (expr_tree c.args.e.now) _ c.in_ok-head.ensures.same c.in_ok-head.ensures.head c.in_ok-known.ensures.known

pub returns-clause-noted : goal.returns-clause-noted
returns-clause-noted c =
    noted_read c.args.context.now c.args.locals.now _ _ (expr_tree c.args.e.now) c.args.found.now.items _ _ c.in_ok-head.ensures.same c.in_ok-head.ensures.head c.in_ok-head.ensures.noted c.in_ok-known.ensures.noted
