use Rattle.ss_typed.specs.View.{simple_of}
use Rattle.ss_nonnull_seen.specs.Codes.{path_of, context_of}
use Rattle.ss_nonnull_seen.specs.Paths.{assigned_known, fields_known}
use Rattle.ss_nonnull.proofs.Points.{twice}
use Rattle.ss_nonnull.proofs.simple.assigned.Goals as goal

pub returns : goal.returns
returns c =
    twice (assigned_known c.args.operator c.args.local c.args.non_null) (fields_known (context_of c.args.context.now).numbers (simple_of c.args.stmt.now)) (path_of c.args.known) _ _
    c.in_ok-put.ensures c.in_ok-behind.ensures
