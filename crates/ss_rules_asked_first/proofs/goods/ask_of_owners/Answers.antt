use Rattle.std.proofs.Common.{map, ◌++◌, ap, ◌∙◌}
use Rattle.ss_logic.specs.declared.GoodRule.TheVariants as good_rule
use Rattle.ss_logic.specs.Asked.{OfGood}
use Rattle.ss_terms.specs.Forms.{term_at}
use Rattle.ss_rules_asked.specs.Numbers.{arguments_at, asked_in}
use Rattle.ss_rules_asked_first.specs.Good.{owners_at, owner_parts}
use Rattle.ss_rules_asked_first.proofs.Joining.{ok_asks}
use Rattle.ss_rules_asked_first.proofs.Instances.{owners_over}
use Rattle.ss_rules_asked_first.proofs.goods.ask_of_owners.Goals as goal

pub returns : goal.returns
returns c =
    ok_asks c.ask_with_owners.result c.args.context.now.bank.now c.ask_with_owners.new.asked.items _ _
    (ap (λ xs. asked_in c.args.context.now.bank.now c.args.asked.now.items ++ xs) (owners_over (term_at c.args.context.now.bank.now c.args.s) (owners_at c.args.context.now.bank.now c.deref.result.now) c.args.kind (arguments_at c.args.context.now.bank.now c.args.others.now)
    ∙ ap (λ ps. map (OfGood good_rule.Typed (term_at c.args.context.now.bank.now c.args.s)) (owner_parts (owners_at c.args.context.now.bank.now ps) c.args.kind (arguments_at c.args.context.now.bank.now c.args.others.now))) c.deref.ensures.value))
    c.ask_with_owners.ensures
