use Rattle.std.proofs.Common.{◌++◌, ap, sym, ◌∙◌}
use Rattle.ss_terms.specs.Forms.{term_at}
use Rattle.ss_rules_asked.specs.Numbers.{arguments_at, asked_in}
use Rattle.ss_rules_asked.specs.Readings.{reading_at}
use Rattle.ss_rules_asked_first.specs.Good.{nearby_at}
use Rattle.ss_rules_asked_first.proofs.Joining.{ok_asks}
use Rattle.ss_rules_asked_first.proofs.Instances.{good_asked}
use Rattle.ss_rules_asked_first.proofs.goods.ask_of_good.Goals as goal

pub returns : goal.returns
returns c =
    ok_asks c.ask_by_rule.result c.args.context.now.bank.now c.ask_by_rule.new.asked.items _ _
    (ap (λ xs. asked_in c.args.context.now.bank.now c.args.asked.now.items ++ xs)
    (good_asked (nearby_at c.args.context.now.bank.now c.args.context.now.near.now) (term_at c.args.context.now.bank.now c.args.s) (reading_at c.args.context.now.bank.now c.args.r) c.args.name _ (sym c.if-not-is_same_term.ensures)
    (arguments_at c.args.context.now.bank.now c.deref.result.now) (ap (arguments_at c.args.context.now.bank.now) c.deref.ensures.value ∙ c.in_ok-others.ensures.are)))
    c.ask_by_rule.ensures
