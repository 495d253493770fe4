use Rattle.std.proofs.Common.{◌≡◌, ◌++◌, map, drop}
use Rattle.ss_typed.specs.Tree.{stmt_trees}
use Rattle.ss_typed.specs.View.{stmt_of}
use Rattle.ss_owners_rules.specs.Words.{misplaced_along}
use Rattle.ss_owners.proofs.statements.+statements.Given as goal

abbrev pub invariant-find_along-loop-statement : goal.invariant-find_along-loop-statement
invariant-find_along-loop-statement l = l.found.items ++ misplaced_along (stmt_trees (map stmt_of (drop l.statement-index l.statements))) ≡ l.fn.found.items ++ misplaced_along (stmt_trees (map stmt_of l.statements))
