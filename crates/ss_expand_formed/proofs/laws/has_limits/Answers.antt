use Rattle.ss_expand_formed.proofs.LimitsLaw.{has_limits}
use Rattle.ss_expand_formed.proofs.laws.has_limits.Goals as goal

pub returns : goal.returns
returns c = has_limits
