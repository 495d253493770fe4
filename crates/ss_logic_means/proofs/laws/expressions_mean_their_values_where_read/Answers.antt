use Rattle.ss_logic_means.proofs.Everywhere.{plainly_from}
use Rattle.ss_logic_means.proofs.Translating.{translated}
use Rattle.ss_logic_means.proofs.laws.expressions_mean_their_values_where_read.Goals as goal

pub returns : goal.returns
returns c = λ among m now entry x s locals k good e st at reads none is. translated among m now entry x s locals k good e st (plainly_from among x reads none) is (λ _. at)
