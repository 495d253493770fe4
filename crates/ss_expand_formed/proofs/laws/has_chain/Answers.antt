use Rattle.ss_expand_formed.proofs.ChainLaw.{has_chain}
use Rattle.ss_expand_formed.proofs.laws.has_chain.Goals as goal

pub returns : goal.returns
returns c = has_chain
