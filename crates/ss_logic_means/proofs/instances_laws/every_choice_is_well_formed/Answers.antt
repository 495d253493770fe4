use Rattle.ss_logic_means.proofs.Putting.{choice_formed}
use Rattle.ss_logic_means.proofs.instances_laws.every_choice_is_well_formed.Goals as goal

pub returns : goal.returns
returns c = choice_formed
