use Rattle.ss_frames.proofs.Meaning.{kept_means}
use Rattle.ss_frames.proofs.laws.kept_is_true_where_stores_are_kept.Goals as goal

pub returns : goal.returns
returns c = kept_means
