use Rattle.ss_logic.proofs.Kept.{grown_from}
use Rattle.ss_logic.proofs.frames_laws.grown_is_true_only_of_grown_stores.Goals as goal

pub returns : goal.returns
returns c = grown_from
