use Rattle.ss_frames.proofs.Meaning.{grown_means}
use Rattle.ss_frames.proofs.laws.grown_is_true_where_stores_have_grown.Goals as goal

pub returns : goal.returns
returns c = grown_means
