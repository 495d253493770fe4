use Rattle.ss_core.specs.View.{classes}
use Rattle.ss_logic.specs.GoodRules.{good_instance_of}
use Rattle.ss_terms.specs.Forms.{term_at, terms_at}
use Rattle.ss_check_steps.proofs.Numbers.{as_number}
use Rattle.ss_check.proofs.instances.good.Goals as goal

pub returns-clause-fact : goal.returns-clause-fact
returns-clause-fact c =
    rw (c.in-Some.ensures.1, c.in-Some-good_store_at.ensures.1)
    (as_number c.good_instance.new.b (good_instance_of (classes c.args.context.now.classes.now) c.args.name (term_at c.args.bank.now c.in-Some-good_store_at.store) (terms_at c.args.bank.now c.args.ts.now)) c.good_instance.result c.good_instance.ensures.at)
