use Rattle.ss_terms.specs.declared.forms.TermId.{TermId}
use Rattle.ss_terms.proofs.Tested.{AreTermsBelow-get}
use Rattle.ss_rules_asked.proofs.Gathering.{pairs_next}
use Rattle.ss_rules_asked.proofs.gathered.pairs.Goals as goal

pub add_pair-requires-clause-term : goal.add_pair-requires-clause-term
add_pair-requires-clause-term c = AreTermsBelow-get _ c.args.terms.now c.loop-t.t-index (record { 0 = 0 }) c.requires c.loop-t-test.true

pub loop-t-preserved : goal.loop-t-preserved
loop-t-preserved c = pairs_next c.args.terms.now c.loop-t.t-index (record { 0 = 0 }) c.args.bank.now c.loop-t.pairs.items c.add_pair.new.pairs.items c.loop-t-test.true c.loop-t.invariant c.in_ok-add_pair.ensures
