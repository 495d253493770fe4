use Rattle.ss_top_sources.proofs.Meanings.{one_fault}
use Rattle.ss_top_sources.proofs.laws.one_fault.Goals as goal

pub returns : goal.returns
returns c = one_fault
