use Rattle.ss_typed.specs.View.{declarator}
use Rattle.ss_nonnull_seen.specs.Codes.{path_of, context_of}
use Rattle.ss_nonnull.proofs.Points.{declared_known}
use Rattle.ss_nonnull.proofs.simple.check_declarator.Goals as goal

pub returns-clause-known : goal.returns-clause-known
returns-clause-known c =
    declared_known (context_of c.args.context.now) (declarator c.args.declared.now) _ (path_of c.args.known) _ c.in_ok-non_null.ensures.never c.in_ok-behind.ensures
