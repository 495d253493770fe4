use Rattle.ss_terms.proofs.Tested.{AreBelow-get}
use Rattle.ss_terms.proofs.bank.Bank.kept_highest_of_all.Goals as goal

pub kept_highest-requires : goal.kept_highest-requires
kept_highest-requires c = AreBelow-get _ c.args.fs.now c.loop-f.f-index _ c.requires c.loop-f-test.true
