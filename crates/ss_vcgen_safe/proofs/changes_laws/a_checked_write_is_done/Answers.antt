use Rattle.ss_vcgen_safe.proofs.Checked.{write_done}
use Rattle.ss_vcgen_safe.proofs.changes_laws.a_checked_write_is_done.Goals as goal

pub returns : goal.returns
returns c = write_done
