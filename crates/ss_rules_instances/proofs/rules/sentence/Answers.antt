use Rattle.ss_core.specs.View as view
use Rattle.ss_rules_instances.proofs.Limits.{few_fields}
use Rattle.ss_rules_instances.proofs.rules.sentence.Goals as goal

pub read_rule-requires-clause-fields : goal.read_rule-requires-clause-fields
read_rule-requires-clause-fields c = few_fields (view.classes c.args.classes.now) c.requires.limits
