use Rattle.ss_rules_basic.proofs.Shapes.{no_class}
use Rattle.ss_rules_basic.proofs.arguments.class_alone.Goals as goal

pub returns-in_default : goal.returns-in_default
returns-in_default c = no_class c.args.b.now c.args.class c.args.ts.now c.in_default.len_at_least
