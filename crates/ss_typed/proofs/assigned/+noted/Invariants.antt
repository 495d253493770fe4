use Rattle.std.proofs.Common.{◌≡◌, ◌++◌, map, drop}
use Rattle.ss_typed.specs.Tree.{stmt_trees}
use Rattle.ss_typed.specs.View.{stmt_of}
use Rattle.ss_typed.specs.Assigned.{assigned_along}
use Rattle.ss_typed.proofs.assigned.+noted.Given as goal

abbrev pub invariant-note_all-loop-stmt : goal.invariant-note_all-loop-stmt
invariant-note_all-loop-stmt l = l.found.items ++ assigned_along (stmt_trees (map stmt_of (drop l.stmt-index l.stmts))) ≡ l.fn.found.items ++ assigned_along (stmt_trees (map stmt_of l.stmts))
