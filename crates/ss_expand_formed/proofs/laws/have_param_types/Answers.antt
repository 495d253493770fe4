use Rattle.ss_expand_formed.proofs.TypesKnown.{have_param_types}
use Rattle.ss_expand_formed.proofs.laws.have_param_types.Goals as goal

pub returns : goal.returns
returns c = have_param_types
