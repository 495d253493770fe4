use Rattle.ss_core.specs.View.{classes}
use Rattle.ss_logic.specs.Rules.{instance_of}
use Rattle.ss_terms.specs.Forms.{terms_at}
use Rattle.ss_check_steps.proofs.Numbers.{as_number}
use Rattle.ss_check.proofs.instances.rule.Goals as goal

pub returns-clause-fact : goal.returns-clause-fact
returns-clause-fact c = as_number c.instance.new.b (instance_of (classes c.args.classes.now) c.args.name (terms_at c.args.bank.now c.args.ts.now)) c.instance.result c.instance.ensures.at
