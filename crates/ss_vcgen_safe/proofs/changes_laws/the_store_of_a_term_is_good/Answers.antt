use Rattle.ss_vcgen_safe.proofs.Standing.{is_good}
use Rattle.ss_vcgen_safe.proofs.changes_laws.the_store_of_a_term_is_good.Goals as goal

pub returns : goal.returns
returns c = is_good
