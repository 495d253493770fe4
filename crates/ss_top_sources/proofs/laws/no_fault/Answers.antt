use Rattle.ss_top_sources.proofs.Meanings.{no_fault}
use Rattle.ss_top_sources.proofs.laws.no_fault.Goals as goal

pub returns : goal.returns
returns c = no_fault
