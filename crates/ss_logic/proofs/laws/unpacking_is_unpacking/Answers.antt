use Rattle.ss_logic.proofs.Changing.{unpacked_same}
use Rattle.ss_logic.proofs.laws.unpacking_is_unpacking.Goals as goal

pub returns : goal.returns
returns c = unpacked_same
