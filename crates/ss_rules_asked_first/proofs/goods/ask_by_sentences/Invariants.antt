use Rattle.std.proofs.Common.{◌++◌, take}
use Rattle.std.specs.Prelude.{flat_map}
use Rattle.ss_terms.specs.Forms.{terms_at}
use Rattle.ss_rules_asked.specs.Numbers.{asked_in, Asks}
use Rattle.ss_rules_asked_first.specs.Good.{nearby_at, in_stores}
use Rattle.ss_rules_asked_first.proofs.goods.ask_by_sentences.Given as goal

abbrev pub invariant-loop-sentence : goal.invariant-loop-sentence
invariant-loop-sentence l = Asks l.context.bank.now l.asked.items (asked_in l.context.bank.now l.initial.asked.items ++ flat_map (in_stores (nearby_at l.context.bank.now l.context.near.now) (terms_at l.context.bank.now l.stores)) (take l.sentence-index l.sentences))
