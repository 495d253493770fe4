use Rattle.ss_vcgen_safe.proofs.Placed.{position_sorted}
use Rattle.ss_vcgen_safe.proofs.parts_laws.contexts_of_positions_are_sorted.Goals as goal

pub returns : goal.returns
returns c = position_sorted
