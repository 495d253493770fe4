use Rattle.ss_logic_means.proofs.Bodies.{some_structure}
use Rattle.ss_logic_means.proofs.laws.some_structure_gives_the_values.Goals as goal

pub returns : goal.returns
returns c = λ table now entry numbered before locals types sorts. some_structure table now entry numbered before locals types sorts
