use Rattle.ss_logic.proofs.Changing.{ready_same}
use Rattle.ss_logic.proofs.laws.being_made_ready_is_being_made_ready.Goals as goal

pub returns : goal.returns
returns c = ready_same
