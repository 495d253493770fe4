use Rattle.std.proofs.Common.{◌≡◌, map, drop}
use Rattle.ss_typed.specs.Tree.{stmt_trees}
use Rattle.ss_typed.specs.View.{stmt_of}
use Rattle.ss_typed.specs.Shapes.{has_base}
use Rattle.ss_typed.proofs.shapes.has_base.Given as goal

abbrev pub invariant-loop-statement : goal.invariant-loop-statement
invariant-loop-statement l = has_base (stmt_trees (map stmt_of (drop l.statement-index l.statements))) ≡ has_base (stmt_trees (map stmt_of l.statements))
