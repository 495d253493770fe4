use Rattle.std.proofs.Common.{◌≡◌, ◌++◌, map, drop}
use Rattle.ss_ast.specs.Statements.{stmt_tree, stmt_trees}
use Rattle.ss_tables_scopes.specs.Views.{scope_of}
use Rattle.ss_resolver_types_expressions.specs.Statements.{stmts_faults}
use Rattle.ss_resolver_types.specs.Bodies.{body_of}
use Rattle.ss_resolver_types.proofs.stmts.+stmt.Given as goal

abbrev pub invariant-check_stmts-loop-stmt : goal.invariant-check_stmts-loop-stmt
invariant-check_stmts-loop-stmt l = record {
  outer : l.locals.outer ≡ l.fn.locals.outer;
  noted : l.found.items ++ stmts_faults (body_of l.body) (scope_of l.body.within l.locals) (stmt_trees (map stmt_tree (drop l.stmt-index l.stmts)))
      ≡ l.fn.found.items ++ stmts_faults (body_of l.body) (scope_of l.body.within l.fn.locals) (stmt_trees (map stmt_tree l.stmts));
}
