use Rattle.ss_logic_means.proofs.Stated.{packed_formed}
use Rattle.ss_logic_means.proofs.laws.packed_invariants_are_well_formed.Goals as goal

pub returns : goal.returns
returns c = packed_formed
