use Rattle.ss_logic_means.proofs.Bodies.{body_stays}
use Rattle.ss_logic_means.proofs.laws.contexts_of_bodies_stay.Goals as goal

pub returns : goal.returns
returns c = body_stays
