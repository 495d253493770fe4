use Rattle.ss_vcgen_safe.proofs.AfterChanges.{next_stands}
use Rattle.ss_vcgen_safe.proofs.changes_laws.the_next_reference_is_the_new_object.Goals as goal

pub returns : goal.returns
returns c = next_stands
