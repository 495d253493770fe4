use Rattle.ss_vcgen_safe.proofs.AfterChanges.{unpack_after}
use Rattle.ss_vcgen_safe.proofs.changes_laws.the_term_is_unpacked.Goals as goal

pub returns : goal.returns
returns c = unpack_after
