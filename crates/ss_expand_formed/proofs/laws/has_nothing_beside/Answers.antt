use Rattle.ss_expand_formed.proofs.ChainLaw.{nothing_beside}
use Rattle.ss_expand_formed.proofs.laws.has_nothing_beside.Goals as goal

pub returns : goal.returns
returns c = nothing_beside
