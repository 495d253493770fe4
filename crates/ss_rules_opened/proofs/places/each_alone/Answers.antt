use Rattle.ss_terms.proofs.Tested.{AreTermsBelow-get}
use Rattle.ss_rules_opened.proofs.Placed.{alone_next}
use Rattle.ss_rules_opened.proofs.places.each_alone.Goals as goal

pub add_alone-requires-clause-term : goal.add_alone-requires-clause-term
add_alone-requires-clause-term c = AreTermsBelow-get _ c.args.ts.now c.loop-t.t-index (record { 0 = 0 }) c.requires c.loop-t-test.true

pub loop-t-preserved : goal.loop-t-preserved
loop-t-preserved c = alone_next c.args.ts.now c.loop-t.t-index (record { 0 = 0 }) c.args.bank.now c.loop-t.tuples.items c.add_alone.new.tuples.items c.loop-t-test.true c.loop-t.invariant c.in_ok-add_alone.ensures
