use Rattle.ss_terms.proofs.Tested.{AreTermsBelow-get}
use Rattle.ss_terms.proofs.bank.Bank.highest_of_terms.Goals as goal

pub highest_of_term-requires : goal.highest_of_term-requires
highest_of_term-requires c = AreTermsBelow-get _ c.args.ts.now c.loop-t.t-index _ c.requires c.loop-t-test.true
