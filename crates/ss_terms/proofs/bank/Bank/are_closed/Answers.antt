use Rattle.ss_terms.proofs.Tested.{AreTermsBelow-get}
use Rattle.ss_terms.proofs.bank.Bank.are_closed.Goals as goal

pub is_well_sorted-requires : goal.is_well_sorted-requires
is_well_sorted-requires c = AreTermsBelow-get _ c.args.ts.now c.loop-t.t-index _ c.requires c.loop-t-test.true
