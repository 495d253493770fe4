use Rattle.ss_vcgen_safe.proofs.ValuesOfParts.{parts_formed}
use Rattle.ss_vcgen_safe.proofs.parts_laws.parts_are_well_formed.Goals as goal

pub returns : goal.returns
returns c = parts_formed
