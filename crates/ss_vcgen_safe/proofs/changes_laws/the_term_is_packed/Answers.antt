use Rattle.ss_vcgen_safe.proofs.AfterChanges.{pack_after}
use Rattle.ss_vcgen_safe.proofs.changes_laws.the_term_is_packed.Goals as goal

pub returns : goal.returns
returns c = pack_after
