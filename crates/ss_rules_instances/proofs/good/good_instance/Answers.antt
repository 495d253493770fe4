use Rattle.ss_core.specs.View as view
use Rattle.ss_logic.specs.GoodRules.{good_instance_of}
use Rattle.ss_terms.specs.Forms.{term_at, terms_at}
use Rattle.ss_rules_instances.proofs.Limits.{by_number, few_fields}
use Rattle.ss_rules_instances.proofs.good.good_instance.Goals as goal

pub good_sentence_at-requires-clause-fields : goal.good_sentence_at-requires-clause-fields
good_sentence_at-requires-clause-fields c = few_fields (view.classes c.args.classes.now) c.requires.limits

pub returns-clause-at : goal.returns-clause-at
returns-clause-at c =
    by_number c.good_sentence_at.new.b (good_instance_of (view.classes c.args.classes.now) c.args.rule (term_at c.args.b.now c.args.store) (terms_at c.args.b.now c.args.arguments.now)) c.good_sentence_at.result
    c.good_sentence_at.ensures.at
