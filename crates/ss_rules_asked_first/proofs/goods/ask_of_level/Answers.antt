use Rattle.std.proofs.Common.{map, ap, ◌∙◌, sym}
use Rattle.ss_logic.specs.declared.GoodRule.TheVariants as good_rule
use Rattle.ss_logic.specs.Asked.{OfGood}
use Rattle.ss_terms.specs.Forms.{term_at}
use Rattle.ss_rules_asked.specs.Numbers.{arguments_at}
use Rattle.ss_rules_asked.proofs.Asking.{asked_then}
use Rattle.ss_rules_asked_first.specs.Good.{level_parts}
use Rattle.ss_rules_asked_first.proofs.Instances.{level_over}
use Rattle.ss_rules_asked_first.proofs.goods.ask_of_level.Goals as goal

pub returns : goal.returns
returns c =
    asked_then c.ask_with_each.result c.args.context.now.bank.now c.args.asked.now.items c.ask_short.new.asked.items c.ask_with_each.new.asked.items _ _ _
    (ap (λ xs. map (OfGood good_rule.Typed (term_at c.args.context.now.bank.now c.args.s)) (level_parts (arguments_at c.args.context.now.bank.now xs) c.args.kind (arguments_at c.args.context.now.bank.now c.args.others.now))) (sym c.deref.ensures.value)
    ∙ sym (level_over (term_at c.args.context.now.bank.now c.args.s) (arguments_at c.args.context.now.bank.now c.deref.result.now) c.args.kind (arguments_at c.args.context.now.bank.now c.args.others.now)))
    c.in_ok-ask_short.ensures c.ask_with_each.ensures
