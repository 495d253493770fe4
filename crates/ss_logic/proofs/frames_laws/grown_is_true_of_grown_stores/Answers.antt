use Rattle.ss_logic.proofs.Kept.{grown_to}
use Rattle.ss_logic.proofs.frames_laws.grown_is_true_of_grown_stores.Goals as goal

pub returns : goal.returns
returns c = grown_to
