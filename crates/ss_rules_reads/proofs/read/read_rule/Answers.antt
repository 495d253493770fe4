use Rattle.ss_core.specs.View as view
use Rattle.ss_rules_reads.proofs.Instances.{few_arguments}
use Rattle.ss_rules_reads.proofs.read.read_rule.Goals as goal

pub returns-in_default-clause-at : goal.returns-in_default-clause-at
returns-in_default-clause-at c = few_arguments (view.classes c.args.classes.now) c.args.b.now c.args.arguments.now c.in_default.len_below
