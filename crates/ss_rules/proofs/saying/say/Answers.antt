use Rattle.std.proofs.Common.{ap, ◌∙◌}
use Rattle.ss_core.specs.View as view
use Rattle.ss_logic.specs.Asked.{said}
use Rattle.ss_terms.specs.Forms.{terms_at}
use Rattle.ss_rules_asked.specs.Numbers.{rule_at, arguments_at, asked_with}
use Rattle.ss_rules_asked.proofs.Grown.{HasRule-grown, rule_at-grown}
use Rattle.ss_rules.proofs.Making.{ok_number}
use Rattle.ss_rules.proofs.saying.say.Goals as goal

pub say_at-requires-clause-rule : goal.say_at-requires-clause-rule
say_at-requires-clause-rule c = HasRule-grown c.args.bank.now c.terms_of_arguments.new.bank c.terms_of_arguments.ensures.grown c.args.asked.now.rule c.requires.rule

pub returns-clause-at : goal.returns-clause-at
returns-clause-at c =
    ok_number c.say_at.result c.say_at.new.bank _ _
    (ap (λ r. said (view.classes c.args.classes.now) (asked_with r (terms_at c.terms_of_arguments.new.bank c.deref-2.result.now))) (rule_at-grown c.args.bank.now c.terms_of_arguments.new.bank c.terms_of_arguments.ensures.grown c.args.asked.now.rule c.requires.rule)
    ∙ ap (λ ts. said (view.classes c.args.classes.now) (asked_with (rule_at c.args.bank.now c.args.asked.now.rule) ts)) (ap (terms_at c.terms_of_arguments.new.bank) c.deref-2.ensures.value ∙ c.in_ok-arguments.ensures.at)
    ∙ ap (λ xs. said (view.classes c.args.classes.now) (asked_with (rule_at c.args.bank.now c.args.asked.now.rule) (arguments_at c.args.bank.now xs))) c.deref.ensures.value)
    c.say_at.ensures.at
