use Rattle.ss_top_sources.proofs.Meanings.{one_meaning}
use Rattle.ss_top_sources.proofs.laws.one_meaning.Goals as goal

pub returns : goal.returns
returns c = one_meaning
