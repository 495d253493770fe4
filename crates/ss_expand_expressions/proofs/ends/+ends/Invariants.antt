use Rattle.std.proofs.Common.{◌≡◌, map, drop}
use Rattle.ss_typed.specs.Tree.{stmt_trees}
use Rattle.ss_typed.specs.View.{stmt_of}
use Rattle.ss_expand_rules.specs.Ends.{all_can_end}
use Rattle.ss_expand_expressions.proofs.ends.+ends.Given as goal

abbrev pub invariant-all_can_end-loop-stmt : goal.invariant-all_can_end-loop-stmt
invariant-all_can_end-loop-stmt l = all_can_end (stmt_trees (map stmt_of (drop l.stmt-index l.stmts))) ≡ all_can_end (stmt_trees (map stmt_of l.stmts))
