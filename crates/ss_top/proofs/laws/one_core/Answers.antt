use Rattle.ss_top.proofs.Meanings.{one_core}
use Rattle.ss_top.proofs.laws.one_core.Goals as goal

pub returns : goal.returns
returns c = one_core
