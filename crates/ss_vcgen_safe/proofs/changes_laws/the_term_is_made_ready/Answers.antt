use Rattle.ss_vcgen_safe.proofs.AfterChanges.{ready_after}
use Rattle.ss_vcgen_safe.proofs.changes_laws.the_term_is_made_ready.Goals as goal

pub returns : goal.returns
returns c = ready_after
