use Rattle.ss_logic_means.proofs.Putting.{cases_formed}
use Rattle.ss_logic_means.proofs.instances_laws.every_case_is_well_formed.Goals as goal

pub returns : goal.returns
returns c = cases_formed
