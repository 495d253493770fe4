use Rattle.ss_terms.specs.declared.forms.TermId.{TermId}
use Rattle.ss_terms.specs.Forms.{term_at}
use Rattle.ss_terms.proofs.Tested.{AreTermsBelow-get}
use Rattle.ss_rules_asked.specs.Numbers.{asked_in}
use Rattle.ss_rules_asked.proofs.Asking.{asked_next}
use Rattle.ss_rules_asked_first.specs.Good.{nearby_at, in_store}
use Rattle.ss_rules_asked_first.proofs.goods.ask_in_stores.Goals as goal

pub ask_in_store-requires-clause-store : goal.ask_in_store-requires-clause-store
ask_in_store-requires-clause-store c = AreTermsBelow-get _ c.args.stores.now c.loop-s.s-index (record { 0 = 0 }) c.requires.stores c.loop-s-test.true

pub loop-s-preserved : goal.loop-s-preserved
loop-s-preserved c =
    asked_next c.args.context.now.bank.now (term_at c.args.context.now.bank.now) (in_store (nearby_at c.args.context.now.bank.now c.args.context.now.near.now) c.args.sentence) (asked_in c.args.context.now.bank.now c.args.asked.now.items) c.loop-s.asked.items c.ask_in_store.new.asked.items
    c.args.stores.now c.loop-s.s-index (record { 0 = 0 }) c.loop-s-test.true c.loop-s.invariant c.in_ok-ask_in_store.ensures
