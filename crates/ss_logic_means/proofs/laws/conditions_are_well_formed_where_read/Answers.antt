use Rattle.ss_logic_means.proofs.Stated.{condition_formed}
use Rattle.ss_logic_means.proofs.laws.conditions_are_well_formed_where_read.Goals as goal

pub returns : goal.returns
returns c = λ among x s bound st at speaks is. condition_formed among s bound st at x speaks is
