use Rattle.std.proofs.Common.{◌≡◌, map, drop}
use Rattle.ss_ast.specs.Statements.{stmt_tree, stmt_trees}
use Rattle.ss_resolver_types_expressions.specs.Members.{calls_base}
use Rattle.ss_resolver_types.proofs.bases.calls_base.Given as goal

abbrev pub invariant-loop-stmt : goal.invariant-loop-stmt
invariant-loop-stmt l = calls_base (stmt_trees (map stmt_tree (drop l.stmt-index l.stmts))) ≡ calls_base (stmt_trees (map stmt_tree l.stmts))
