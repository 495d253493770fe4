use Rattle.ss_terms.specs.Forms.{terms_at}
use Rattle.ss_rules_asked.specs.Numbers.{asked_in}
use Rattle.ss_rules_asked_first.specs.Good.{nearby_at, in_stores}
use Rattle.ss_rules_asked_first.proofs.Joining.{sentence_next}
use Rattle.ss_rules_asked_first.proofs.goods.ask_by_sentences.Goals as goal

pub loop-sentence-preserved : goal.loop-sentence-preserved
loop-sentence-preserved c =
    sentence_next c.args.context.now.bank.now (in_stores (nearby_at c.args.context.now.bank.now c.args.context.now.near.now) (terms_at c.args.context.now.bank.now c.args.stores.now)) (asked_in c.args.context.now.bank.now c.args.asked.now.items) c.loop-sentence.asked.items c.ask_in_stores.new.asked.items
    c.args.sentences.now c.loop-sentence.sentence-index _ c.loop-sentence-test.true c.loop-sentence.invariant c.in_ok-ask_in_stores.ensures
