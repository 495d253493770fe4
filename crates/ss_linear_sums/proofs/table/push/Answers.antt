use Rattle.ss_linear_sums.proofs.Summing.{AreKept-push}
use Rattle.ss_linear_sums.proofs.table.push.Goals as goal

pub returns : goal.returns
returns c = rw c.in_ok-push.ensures.items (AreKept-push c.args.bank.now c.args.table.now.kept.items _ c.requires.kept (c.requires.parts, c.requires.sum))
