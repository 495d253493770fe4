use Rattle.std.proofs.Common.{ap, ◌∙◌}
use Rattle.ss_core.specs.View as view
use Rattle.ss_store_rules.specs.NonNull.{known_after}
use Rattle.ss_vcgen.proofs.statements.known_behind.Goals as goal

pub returns : goal.returns
returns c = c.in_ok-step.ensures ∙ ap (known_after (view.core c.args.walk.now.core.now) (view.body c.args.walk.now.body.now) (view.stmt_of c.args.stmt.now)) c.in_ok-known.ensures
