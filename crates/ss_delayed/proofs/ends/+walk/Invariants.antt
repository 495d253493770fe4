use Rattle.std.proofs.Common.{◌≡◌, ◌++◌, map, drop}
use Rattle.ss_typed.specs.Tree.{stmt_trees}
use Rattle.ss_typed.specs.View.{stmt_of, typed}
use Rattle.ss_paths_assigned.specs.Codes.{numbers_of}
use Rattle.ss_delayed_rules.specs.Constructors.{unassigned_faults}
use Rattle.ss_delayed.specs.Walked.{known_of, walked_along, ended_along}
use Rattle.ss_delayed.proofs.ends.+walk.Given as goal

abbrev pub invariant-walk_along-loop-statement : goal.invariant-walk_along-loop-statement
invariant-walk_along-loop-statement l = record {
  behind : walked_along (numbers_of l.context.numbers) (stmt_trees (map stmt_of (drop l.statement-index l.statements))) (known_of l.known)
      ≡ walked_along (numbers_of l.context.numbers) (stmt_trees (map stmt_of l.statements)) (known_of l.fn.first);
  noted : l.found.items ++ ended_along (unassigned_faults (typed l.context.program.now) l.context.class.0 l.context.end) (numbers_of l.context.numbers) (stmt_trees (map stmt_of (drop l.statement-index l.statements))) (known_of l.known)
      ≡ l.fn.found.items ++ ended_along (unassigned_faults (typed l.context.program.now) l.context.class.0 l.context.end) (numbers_of l.context.numbers) (stmt_trees (map stmt_of l.statements)) (known_of l.fn.first);
}
