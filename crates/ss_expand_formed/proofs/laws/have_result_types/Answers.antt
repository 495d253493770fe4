use Rattle.ss_expand_formed.proofs.TypesKnown.{have_result_types}
use Rattle.ss_expand_formed.proofs.laws.have_result_types.Goals as goal

pub returns : goal.returns
returns c = have_result_types
