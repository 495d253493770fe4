use Rattle.ss_logic.proofs.Kept.{kept_from}
use Rattle.ss_logic.proofs.frames_laws.kept_is_true_only_of_kept_stores.Goals as goal

pub returns : goal.returns
returns c = kept_from
