use Rattle.ss_vcgen_safe.proofs.Placed.{position_stands}
use Rattle.ss_vcgen_safe.proofs.parts_laws.contexts_of_positions_stand.Goals as goal

pub returns : goal.returns
returns c = position_stands
