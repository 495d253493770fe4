use Rattle.std.proofs.Common.{◌≡◌, map, drop}
use Rattle.ss_ast.specs.Statements.{stmt_tree, stmt_trees}
use Rattle.ss_tables_scopes.specs.Views.{scope_of}
use Rattle.ss_resolver_names_rules.specs.Locals.{stmts_params}
use Rattle.ss_resolver_scoping.specs.Views.{names_of}
use Rattle.ss_resolver_names.proofs.assigned.+assigned.Given as goal

abbrev pub invariant-note_stmts-loop-stmt : goal.invariant-note_stmts-loop-stmt
invariant-note_stmts-loop-stmt l = record {
  named : stmts_params (scope_of l.context l.locals) (names_of l.names.keys) (stmt_trees (map stmt_tree (drop l.stmt-index l.stmts))) ≡ stmts_params (scope_of l.context l.fn.locals) (names_of l.fn.names.keys) (stmt_trees (map stmt_tree l.stmts));
  around : l.locals.outer ≡ l.fn.locals.outer;
}
