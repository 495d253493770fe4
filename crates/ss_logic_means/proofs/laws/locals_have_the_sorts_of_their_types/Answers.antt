use Rattle.ss_logic_means.proofs.Bodies.{good_sorts}
use Rattle.ss_logic_means.proofs.laws.locals_have_the_sorts_of_their_types.Goals as goal

pub returns : goal.returns
returns c = good_sorts
