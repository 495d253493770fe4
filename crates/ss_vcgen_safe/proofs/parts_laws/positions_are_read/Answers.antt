use Rattle.ss_vcgen_safe.proofs.Placed.{position_read}
use Rattle.ss_vcgen_safe.proofs.parts_laws.positions_are_read.Goals as goal

pub returns : goal.returns
returns c = position_read
