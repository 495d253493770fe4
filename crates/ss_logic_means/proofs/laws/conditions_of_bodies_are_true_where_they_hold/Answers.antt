use Rattle.ss_logic_means.proofs.Bodies.{body_means}
use Rattle.ss_logic_means.proofs.laws.conditions_of_bodies_are_true_where_they_hold.Goals as goal

pub returns : goal.returns
returns c = body_means
