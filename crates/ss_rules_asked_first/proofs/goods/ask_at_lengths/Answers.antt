use Rattle.std.proofs.Common.{[], ◌∷◌, subst, sym}
use Rattle.ss_logic.specs.declared.GoodRule.TheVariants as good_rule
use Rattle.ss_logic.specs.Asked.{OfGood, numeral}
use Rattle.ss_terms.specs.declared.forms.TermId.{TermId}
use Rattle.ss_terms.specs.Forms.{term_at, HasTerms}
use Rattle.ss_terms.proofs.Tested.{AreTermsBelow-get}
use Rattle.ss_rules_asked.specs.Numbers.{asked_in}
use Rattle.ss_rules_asked_first.proofs.Joining.{one_next_in}
use Rattle.ss_rules_asked_first.proofs.goods.ask_at_lengths.Goals as goal

pub ask_of_length-requires-clause-array : goal.ask_of_length-requires-clause-array
ask_of_length-requires-clause-array c = AreTermsBelow-get _ c.deref-array-items.result.now c.loop-array.array-index (record { 0 = 0 }) (subst (HasTerms c.args.context.now.bank.now) (sym c.deref-array-items.ensures.value) c.requires.near) c.loop-array-test.true

pub loop-array-preserved : goal.loop-array-preserved
loop-array-preserved c =
    one_next_in c.args.context.now.bank.now (term_at c.args.context.now.bank.now) (λ a. OfGood good_rule.Typed (term_at c.args.context.now.bank.now c.args.s) (numeral 8 ∷ a ∷ [])) (asked_in c.args.context.now.bank.now c.args.asked.now.items) c.loop-array.asked.items c.ask_of_length.new.asked.items
    c.deref-array-items.result.now c.args.context.now.near.now.arrays.items c.deref-array-items.ensures.value c.loop-array.array-index (record { 0 = 0 }) c.loop-array-test.true c.loop-array.invariant c.in_ok-ask_of_length.ensures
