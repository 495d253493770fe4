use Rattle.ss_terms.proofs.Tested.{AreTermsBelow-get}
use Rattle.ss_terms.proofs.bank.Bank.sorts_under.Goals as goal

pub sort_under-requires : goal.sort_under-requires
sort_under-requires c = AreTermsBelow-get _ c.args.ts.now c.loop-t.t-index _ c.requires c.loop-t-test.true
