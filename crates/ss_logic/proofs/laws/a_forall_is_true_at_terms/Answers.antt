use Rattle.ss_logic.proofs.Truth.{instance_true}
use Rattle.ss_logic.proofs.laws.a_forall_is_true_at_terms.Goals as goal

pub returns : goal.returns
returns c = instance_true
