use Rattle.ss_logic_means.proofs.Everywhere.{plainly_from}
use Rattle.ss_logic_means.proofs.Expressed.{expressed}
use Rattle.ss_logic_means.proofs.laws.expressions_are_well_formed_where_read.Goals as goal

pub returns : goal.returns
returns c = λ among x s bound st at reads none is. expressed among x s bound st (plainly_from among x reads none) is (λ _. at)
