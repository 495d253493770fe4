use Rattle.ss_terms.proofs.Tested.{AreTermsBelow-get}
use Rattle.ss_rules_asked_first.proofs.Gathering.{owners_next}
use Rattle.ss_rules_asked_first.proofs.owners.owners.Goals as goal

pub pair_parts-owner-requires : goal.pair_parts-owner-requires
pair_parts-owner-requires c = AreTermsBelow-get _ c.args.terms.now c.loop-t.t-index (record { 0 = 0 }) c.requires c.loop-t-test.true

pub loop-t-preserved : goal.loop-t-preserved
loop-t-preserved c =
    owners_next c.args.terms.now c.loop-t.t-index (record { 0 = 0 }) c.args.bank.now c.loop-t.owners.items c.add_owner.new.owners.items c.pair_parts-owner.result c.loop-t-test.true c.loop-t.invariant c.pair_parts-owner.ensures c.in_ok-add_owner.ensures
