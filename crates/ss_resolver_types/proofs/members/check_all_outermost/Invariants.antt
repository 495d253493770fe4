use Rattle.std.proofs.Common.{◌≡◌, ◌++◌, map, drop}
use Rattle.ss_ast.specs.Statements.{stmt_tree, stmt_trees}
use Rattle.ss_tables_scopes.specs.Views.{scope_of}
use Rattle.ss_resolver_types_expressions.specs.Members.{constructor_stmts}
use Rattle.ss_resolver_types.proofs.members.check_all_outermost.Given as goal

abbrev pub invariant-loop-stmt : goal.invariant-loop-stmt
invariant-loop-stmt l =
    l.found.items ++ constructor_stmts l.body.within.class (scope_of l.body.within l.locals) l.may (stmt_trees (map stmt_tree (drop l.stmt-index l.stmts)))
    ≡ l.fn.found.items ++ constructor_stmts l.body.within.class (scope_of l.body.within l.fn.locals) l.fn.may_call (stmt_trees (map stmt_tree l.stmts))
