use Rattle.ss_vcgen_safe.proofs.AfterChanges.{write_after}
use Rattle.ss_vcgen_safe.proofs.changes_laws.the_term_has_a_field_written.Goals as goal

pub returns : goal.returns
returns c = write_after
