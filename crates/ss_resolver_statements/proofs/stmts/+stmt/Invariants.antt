use Rattle.std.proofs.Common.{◌≡◌, ◌++◌, map, drop}
use Rattle.ss_ast.specs.Statements.{stmt_tree}
use Rattle.ss_typed.specs.View as view
use Rattle.ss_resolver_expressions.specs.Environments.{env_of}
use Rattle.ss_resolver_statements.specs.Behind.{behind_all, each_stmt}
use Rattle.ss_resolver_statements.proofs.stmts.+stmt.Given as goal

abbrev pub invariant-resolve_stmts-loop-stmt : goal.invariant-resolve_stmts-loop-stmt
invariant-resolve_stmts-loop-stmt l = record {
  trees : map view.stmt_of l.list.items ++ each_stmt (env_of l.context l.names) (map stmt_tree (drop l.stmt-index l.stmts)) ≡ each_stmt (env_of l.context l.fn.names) (map stmt_tree l.stmts);
  behind : behind_all (env_of l.context l.names) (map stmt_tree (drop l.stmt-index l.stmts)) ≡ behind_all (env_of l.context l.fn.names) (map stmt_tree l.stmts);
}
