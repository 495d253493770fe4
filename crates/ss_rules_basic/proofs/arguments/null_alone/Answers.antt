use Rattle.ss_rules_basic.proofs.Shapes.{no_null}
use Rattle.ss_rules_basic.proofs.arguments.null_alone.Goals as goal

pub returns-in_default : goal.returns-in_default
returns-in_default c = no_null c.args.b.now c.args.ts.now c.in_default.len_at_least
