use Rattle.ss_logic.proofs.Changing.{packed_same}
use Rattle.ss_logic.proofs.laws.packing_is_packing.Goals as goal

pub returns : goal.returns
returns c = packed_same
