use Rattle.ss_vcgen_safe.proofs.Read.{values_parts}
use Rattle.ss_vcgen_safe.proofs.parts_laws.parts_of_all_values_are_true.Goals as goal

pub returns : goal.returns
returns c = values_parts
