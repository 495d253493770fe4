use Rattle.std.proofs.Common.{◌≡◌, ◌++◌, map, drop}
use Rattle.ss_typed.specs.Tree.{stmt_trees}
use Rattle.ss_typed.specs.View.{stmt_of}
use Rattle.ss_delayed_rules.specs.Escapes.{uses_along}
use Rattle.ss_delayed.specs.Parts.{use_of}
use Rattle.ss_delayed.proofs.statements.+statements.Given as goal

abbrev pub invariant-find_along-loop-statement : goal.invariant-find_along-loop-statement
invariant-find_along-loop-statement l = l.found.items ++ uses_along (use_of l.allowed) (stmt_trees (map stmt_of (drop l.statement-index l.statements))) ≡ l.fn.found.items ++ uses_along (use_of l.allowed) (stmt_trees (map stmt_of l.statements))
