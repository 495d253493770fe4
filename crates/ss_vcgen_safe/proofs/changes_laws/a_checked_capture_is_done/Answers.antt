use Rattle.ss_vcgen_safe.proofs.Checked.{rep_done}
use Rattle.ss_vcgen_safe.proofs.changes_laws.a_checked_capture_is_done.Goals as goal

pub returns : goal.returns
returns c = rep_done
