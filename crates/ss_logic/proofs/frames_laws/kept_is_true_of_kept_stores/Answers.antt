use Rattle.ss_logic.proofs.Kept.{kept_to}
use Rattle.ss_logic.proofs.frames_laws.kept_is_true_of_kept_stores.Goals as goal

pub returns : goal.returns
returns c = kept_to
