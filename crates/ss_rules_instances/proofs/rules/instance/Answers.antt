use Rattle.ss_core.specs.View as view
use Rattle.ss_logic.specs.Rules.{instance_of}
use Rattle.ss_terms.specs.Forms.{terms_at}
use Rattle.ss_rules_instances.proofs.Limits.{by_number}
use Rattle.ss_rules_instances.proofs.rules.instance.Goals as goal

pub returns-clause-at : goal.returns-clause-at
returns-clause-at c = by_number c.sentence.new.b (instance_of (view.classes c.args.classes.now) c.args.rule (terms_at c.args.b.now c.args.arguments.now)) c.sentence.result c.sentence.ensures.at
