use Rattle.ss_vcgen_safe.proofs.Read.{condition_sorted}
use Rattle.ss_vcgen_safe.proofs.parts_laws.conditions_of_code_are_well_formed.Goals as goal

pub returns : goal.returns
returns c = condition_sorted
