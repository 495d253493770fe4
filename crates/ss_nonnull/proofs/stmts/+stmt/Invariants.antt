use Rattle.std.proofs.Common.{◌≡◌, ◌++◌, map, drop}
use Rattle.ss_typed.specs.Tree.{stmt_trees}
use Rattle.ss_typed.specs.View.{stmt_of}
use Rattle.ss_nonnull_seen.specs.Codes.{path_of, context_of}
use Rattle.ss_nonnull.specs.Walks.{known_at_end, along_faults}
use Rattle.ss_nonnull.proofs.stmts.+stmt.Given as goal

abbrev pub invariant-check_all-loop-stmt : goal.invariant-check_all-loop-stmt
invariant-check_all-loop-stmt l = record {
  known : known_at_end (context_of l.context) (stmt_trees (map stmt_of (drop l.stmt-index l.stmts))) (path_of l.reached) ≡ known_at_end (context_of l.context) (stmt_trees (map stmt_of l.stmts)) (path_of l.fn.known);
  noted : l.found.items ++ along_faults (context_of l.context) (stmt_trees (map stmt_of (drop l.stmt-index l.stmts))) (path_of l.reached)
      ≡ l.fn.found.items ++ along_faults (context_of l.context) (stmt_trees (map stmt_of l.stmts)) (path_of l.fn.known);
}
