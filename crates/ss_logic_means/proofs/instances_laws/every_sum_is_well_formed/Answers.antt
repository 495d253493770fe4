use Rattle.ss_logic_means.proofs.Summing.{sum_formed}
use Rattle.ss_logic_means.proofs.instances_laws.every_sum_is_well_formed.Goals as goal

pub returns : goal.returns
returns c = sum_formed
