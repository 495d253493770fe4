use Rattle.std.proofs.Common.{◌≡◌, map, drop}
use Rattle.ss_typed.specs.Tree.{stmt_trees}
use Rattle.ss_typed.specs.View.{stmt_of}
use Rattle.ss_delayed_rules.specs.Opening.{base_in}
use Rattle.ss_delayed.proofs.opening.base_in.Given as goal

abbrev pub invariant-loop-statement : goal.invariant-loop-statement
invariant-loop-statement l = base_in (stmt_trees (map stmt_of (drop l.statement-index l.statements))) ≡ base_in (stmt_trees (map stmt_of l.statements))
