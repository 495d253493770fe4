use Rattle.std.proofs.Common.{map, ap, ◌∙◌, sym}
use Rattle.ss_logic.specs.declared.GoodRule.TheVariants as good_rule
use Rattle.ss_logic.specs.Asked.{OfGood}
use Rattle.ss_terms.specs.Forms.{term_at}
use Rattle.ss_rules_asked.specs.Numbers.{arguments_at}
use Rattle.ss_rules_asked.proofs.Asking.{asked_then}
use Rattle.ss_rules_asked_first.specs.Good.{owners_at, owned_parts}
use Rattle.ss_rules_asked_first.proofs.Instances.{owned_over}
use Rattle.ss_rules_asked_first.proofs.goods.ask_of_each_owned.Goals as goal

pub returns : goal.returns
returns c =
    asked_then c.ask_short.result c.args.context.now.bank.now c.args.asked.now.items c.ask_with_owners.new.asked.items c.ask_short.new.asked.items _ _ _
    (ap (λ ps. map (OfGood good_rule.Owned (term_at c.args.context.now.bank.now c.args.s)) (owned_parts (owners_at c.args.context.now.bank.now ps) (arguments_at c.args.context.now.bank.now c.args.others.now))) (sym c.deref.ensures.value)
    ∙ sym (owned_over (term_at c.args.context.now.bank.now c.args.s) (owners_at c.args.context.now.bank.now c.deref.result.now) (arguments_at c.args.context.now.bank.now c.args.others.now)))
    c.in_ok-ask_with_owners.ensures c.ask_short.ensures
