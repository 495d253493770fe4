use Rattle.ss_core.specs.View.{classes}
use Rattle.ss_terms.specs.Forms.{term_at}
use Rattle.ss_rules_instances.proofs.Said.{terms_so}
use Rattle.ss_rules_instances.proofs.instances.at_terms.Goals as goal

pub returns-clause-at : goal.returns-clause-at
returns-clause-at c =
    terms_so c.at_class.result c.at_class.new.bank (classes c.args.classes.now) (term_at c.args.bank.now c.args.store) (term_at c.args.bank.now c.args.object) (term_at c.args.bank.now c.args.class)
    c.class_name-class.result (c.if-not-have_sorts.ensures (classes c.args.classes.now) c.requires.bank) c.class_name-class.ensures c.at_class.ensures.at
