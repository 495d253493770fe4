use Rattle.ss_logic_means.proofs.Bodies.{body_formed}
use Rattle.ss_logic_means.proofs.laws.conditions_of_bodies_are_well_formed.Goals as goal

pub returns : goal.returns
returns c = body_formed
