use Rattle.ss_vcgen_safe.proofs.Checked.{array_done}
use Rattle.ss_vcgen_safe.proofs.changes_laws.a_checked_array_is_done.Goals as goal

pub returns : goal.returns
returns c = array_done
