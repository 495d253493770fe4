use Rattle.std.proofs.Common.{[], ◌∷◌, map, ◌++◌, ap, sym, ◌∙◌}
use Rattle.ss_logic.specs.Asked.{OfInvariants}
use Rattle.ss_terms.specs.Forms.{term_at}
use Rattle.ss_rules_asked.specs.Numbers.{arguments_at, asked_in}
use Rattle.ss_rules_asked.specs.Readings.{reading_at}
use Rattle.ss_rules_asked_first.specs.Good.{nearby_at}
use Rattle.ss_rules_asked_first.proofs.Joining.{ok_asks}
use Rattle.ss_rules_asked_first.proofs.Instances.{invariants_asked}
use Rattle.ss_rules_asked_first.proofs.goods.ask_of_invariants.Goals as goal

pub returns : goal.returns
returns c =
    ok_asks c.ask_with_each.result c.args.context.now.bank.now c.ask_with_each.new.asked.items _ _
    (ap (λ xs. asked_in c.args.context.now.bank.now c.args.asked.now.items ++ xs)
    (ap (λ xs. map (λ t. OfInvariants (term_at c.args.context.now.bank.now c.args.s) (arguments_at c.args.context.now.bank.now c.deref.result.now ++ t ∷ [])) (arguments_at c.args.context.now.bank.now xs)) c.deref-2.ensures.value
    ∙ invariants_asked (nearby_at c.args.context.now.bank.now c.args.context.now.near.now) (term_at c.args.context.now.bank.now c.args.s) (reading_at c.args.context.now.bank.now c.args.r) _ (sym c.if-not-is_level_in.ensures)
    (arguments_at c.args.context.now.bank.now c.deref.result.now) (ap (arguments_at c.args.context.now.bank.now) c.deref.ensures.value ∙ c.in_ok-others.ensures.are)))
    c.ask_with_each.ensures
