use Rattle.ss_vcgen_safe.proofs.AfterChanges.{new_after}
use Rattle.ss_vcgen_safe.proofs.changes_laws.the_term_has_a_new_object.Goals as goal

pub returns : goal.returns
returns c = new_after
