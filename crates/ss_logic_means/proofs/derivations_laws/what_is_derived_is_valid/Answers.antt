use Rattle.ss_logic_means.proofs.Valid.{derived_valid}
use Rattle.ss_logic_means.proofs.derivations_laws.what_is_derived_is_valid.Goals as goal

pub returns : goal.returns
returns c = derived_valid
