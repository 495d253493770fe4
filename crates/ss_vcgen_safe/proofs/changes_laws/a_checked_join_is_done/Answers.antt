use Rattle.ss_vcgen_safe.proofs.Checked.{peer_done}
use Rattle.ss_vcgen_safe.proofs.changes_laws.a_checked_join_is_done.Goals as goal

pub returns : goal.returns
returns c = peer_done
