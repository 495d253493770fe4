use Rattle.std.proofs.Common.{ap, ◌∙◌}
use Rattle.ss_core.specs.View.{stmt_of}
use Rattle.ss_store_rules.specs.NonNull.{known_head}
use Rattle.ss_vcgen_bodies.proofs.renewal.known_at_head.Goals as goal

pub returns : goal.returns
returns c = c.in_ok-head.ensures ∙ ap (known_head (stmt_of c.args.stmt.now)) c.in_ok-known.ensures
