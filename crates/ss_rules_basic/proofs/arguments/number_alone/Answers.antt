use Rattle.ss_rules_basic.proofs.Shapes.{no_number}
use Rattle.ss_rules_basic.proofs.arguments.number_alone.Goals as goal

pub returns-in_default : goal.returns-in_default
returns-in_default c = no_number c.args.b.now c.args.n c.args.ts.now c.in_default.len_at_least
