use Rattle.ss_logic.proofs.Changing.{regrouped_same}
use Rattle.ss_logic.proofs.laws.a_new_owner_is_a_new_owner.Goals as goal

pub returns : goal.returns
returns c = regrouped_same
