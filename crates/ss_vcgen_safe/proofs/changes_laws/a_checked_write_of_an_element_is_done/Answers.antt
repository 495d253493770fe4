use Rattle.ss_vcgen_safe.proofs.Checked.{element_done}
use Rattle.ss_vcgen_safe.proofs.changes_laws.a_checked_write_of_an_element_is_done.Goals as goal

pub returns : goal.returns
returns c = element_done
