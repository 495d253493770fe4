use Rattle.ss_vcgen_safe.proofs.Checked.{pack_done}
use Rattle.ss_vcgen_safe.proofs.changes_laws.a_checked_pack_is_done.Goals as goal

pub returns : goal.returns
returns c = pack_done
