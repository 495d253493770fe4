use Rattle.std.proofs.Common.{◌≡◌, ◌++◌, map, drop}
use Rattle.ss_ast.specs.Statements.{stmt_tree, stmt_trees}
use Rattle.ss_tables_scopes.specs.Views.{scope_of}
use Rattle.ss_resolver_names_rules.specs.Statements.{stmts_faults}
use Rattle.ss_resolver_names_members.proofs.stmts.+stmt.Given as goal

abbrev pub invariant-check_stmts-loop-stmt : goal.invariant-check_stmts-loop-stmt
invariant-check_stmts-loop-stmt l = record {
  noted : l.faults.items ++ stmts_faults (scope_of l.context l.locals) (stmt_trees (map stmt_tree (drop l.stmt-index l.stmts))) ≡ l.fn.faults.items ++ stmts_faults (scope_of l.context l.fn.locals) (stmt_trees (map stmt_tree l.stmts));
  around : l.locals.outer ≡ l.fn.locals.outer;
}
