use Rattle.ss_logic_means.proofs.Bodies.{body_sorted}
use Rattle.ss_logic_means.proofs.laws.contexts_of_bodies_are_sorted.Goals as goal

pub returns : goal.returns
returns c = body_sorted
