use Rattle.ss_vcgen_safe.proofs.Standing.{has_objects}
use Rattle.ss_vcgen_safe.proofs.changes_laws.a_term_for_a_good_heap_has_its_objects.Goals as goal

pub returns : goal.returns
returns c = has_objects
