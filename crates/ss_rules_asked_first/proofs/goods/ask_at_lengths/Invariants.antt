use Rattle.std.proofs.Common.{[], ◌∷◌, ◌++◌, map, take}
use Rattle.ss_logic.specs.declared.GoodRule.TheVariants as good_rule
use Rattle.ss_logic.specs.Asked.{OfGood, numeral}
use Rattle.ss_terms.specs.Forms.{term_at, terms_at}
use Rattle.ss_rules_asked.specs.Numbers.{asked_in, Asks}
use Rattle.ss_rules_asked_first.proofs.goods.ask_at_lengths.Given as goal

abbrev pub invariant-loop-array : goal.invariant-loop-array
invariant-loop-array l = Asks l.context.bank.now l.asked.items (asked_in l.context.bank.now l.initial.asked.items ++ map (λ a. OfGood good_rule.Typed (term_at l.context.bank.now l.s) (numeral 8 ∷ a ∷ [])) (terms_at l.context.bank.now (take l.array-index l.context.near.now.arrays.items)))
