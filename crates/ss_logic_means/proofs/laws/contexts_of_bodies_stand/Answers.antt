use Rattle.ss_logic_means.proofs.Bodies.{body_stands}
use Rattle.ss_logic_means.proofs.laws.contexts_of_bodies_stand.Goals as goal

pub returns : goal.returns
returns c = body_stands
