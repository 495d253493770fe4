use Rattle.ss_vcgen_safe.proofs.Checked.{unpack_done}
use Rattle.ss_vcgen_safe.proofs.changes_laws.a_checked_unpack_is_done.Goals as goal

pub returns : goal.returns
returns c = unpack_done
