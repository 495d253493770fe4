use Rattle.ss_rules_reads.proofs.Instances.{no_constant}
use Rattle.ss_rules_reads.proofs.read.is_bare.Goals as goal

pub returns-in_default : goal.returns-in_default
returns-in_default c = no_constant c.args.b.now c.args.k c.args.ts.now c.in_default.len_at_least
