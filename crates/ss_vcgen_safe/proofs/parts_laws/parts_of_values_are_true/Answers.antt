use Rattle.ss_vcgen_safe.proofs.ValuesOfParts.{parts_true}
use Rattle.ss_vcgen_safe.proofs.parts_laws.parts_of_values_are_true.Goals as goal

pub returns : goal.returns
returns c = parts_true
