use Rattle.ss_vcgen_safe.proofs.AfterChanges.{put_after}
use Rattle.ss_vcgen_safe.proofs.changes_laws.the_term_has_an_element_written.Goals as goal

pub returns : goal.returns
returns c = put_after
