use Rattle.ss_vcgen_safe.proofs.AfterChanges.{array_after}
use Rattle.ss_vcgen_safe.proofs.changes_laws.the_term_has_a_new_array.Goals as goal

pub returns : goal.returns
returns c = array_after
