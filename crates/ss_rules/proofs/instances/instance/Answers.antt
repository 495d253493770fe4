use Rattle.std.proofs.Common.{[]}
use Rattle.ss_core.specs.View as view
use Rattle.ss_logic.specs.Formulas.{IsValid}
use Rattle.ss_terms.specs.Forms.{terms_at}
use Rattle.ss_rules.specs.Instances.{sentence_of, store_is_good}
use Rattle.ss_rules.proofs.Sound.{everywhere_valid, in_good_stores_valid, of_result}
use Rattle.ss_rules.proofs.instances.instance.Goals as goal

pub returns-clause-everywhere : goal.returns-clause-everywhere
returns-clause-everywhere c =
    λ is chain none.
    of_result c.sentence.new.bank (λ f. IsValid (view.classes c.args.program.now.classes) [] f)
    (sentence_of (view.classes c.args.program.now.classes) c.args.rule (terms_at c.args.bank.now c.args.arguments.now)) c.sentence.result c.sentence.ensures.at
    (everywhere_valid (view.classes c.args.program.now.classes) c.args.rule (terms_at c.args.bank.now c.args.arguments.now) is chain none)

pub returns-clause-in_good_stores : goal.returns-clause-in_good_stores
returns-clause-in_good_stores c =
    λ is chain none are.
    of_result c.sentence.new.bank (λ f. IsValid (view.classes c.args.program.now.classes) (store_is_good (terms_at c.args.bank.now c.args.arguments.now)) f)
    (sentence_of (view.classes c.args.program.now.classes) c.args.rule (terms_at c.args.bank.now c.args.arguments.now)) c.sentence.result c.sentence.ensures.at
    (in_good_stores_valid (view.classes c.args.program.now.classes) c.args.rule (terms_at c.args.bank.now c.args.arguments.now) is chain none are)
