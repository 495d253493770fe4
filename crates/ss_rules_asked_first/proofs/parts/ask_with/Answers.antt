use Rattle.std.proofs.Common.{[], ◌∷◌, ◌++◌, ap, ◌∙◌}
use Rattle.ss_rules_asked.specs.Numbers.{rule_at, arguments_at, asked_in, asked_with}
use Rattle.ss_rules_asked_first.proofs.Joining.{ok_asks, has_joined, are_joined}
use Rattle.ss_rules_asked_first.proofs.parts.ask_with.Goals as goal

pub ask-requires-clause-arguments : goal.ask-requires-clause-arguments
ask-requires-clause-arguments c = has_joined c.args.context.now.bank.now c.deref.result.now c.args.first.now c.args.middle.now c.args.last.now (c.deref.ensures.value ∙ c.in_ok-all.ensures) c.requires.first c.requires.middle c.requires.last

pub returns : goal.returns
returns c =
    ok_asks c.ask.result c.args.context.now.bank.now c.ask.new.asked.items _ _
    (ap (λ ts. asked_in c.args.context.now.bank.now c.args.asked.now.items ++ asked_with (rule_at c.args.context.now.bank.now c.args.rule) ts ∷ [])
    (are_joined c.args.context.now.bank.now c.deref.result.now c.args.first.now c.args.middle.now c.args.last.now (c.deref.ensures.value ∙ c.in_ok-all.ensures)))
    c.ask.ensures
