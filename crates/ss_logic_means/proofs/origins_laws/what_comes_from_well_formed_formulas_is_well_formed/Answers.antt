use Rattle.ss_logic_means.proofs.Whole.{listed_formed}
use Rattle.ss_logic_means.proofs.origins_laws.what_comes_from_well_formed_formulas_is_well_formed.Goals as goal

pub returns : goal.returns
returns c = λ cs invariants premises goal given choices accepted fs origins are. listed_formed cs premises goal choices given accepted invariants fs origins are
