use Rattle.ss_vcgen_safe.proofs.Read.{all_parts}
use Rattle.ss_vcgen_safe.proofs.parts_laws.unchecked_parts_are_true.Goals as goal

pub returns : goal.returns
returns c = all_parts
