use Rattle.std.proofs.Common.{◌≡◌, ◌+◌, map, drop}
use Rattle.ss_ast.specs.Statements.{stmt_tree, stmt_trees}
use Rattle.ss_resolver_names_rules.specs.Locals.{stmts_locals}
use Rattle.ss_resolver_names.proofs.declared.+locals.Given as goal

abbrev pub invariant-stmts_locals-loop-stmt : goal.invariant-stmts_locals-loop-stmt
invariant-stmts_locals-loop-stmt l =
    l.total + stmts_locals (stmt_trees (map stmt_tree (drop l.stmt-index l.stmts))) ≡ stmts_locals (stmt_trees (map stmt_tree l.stmts))
