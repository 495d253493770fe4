use Rattle.ss_logic_means.proofs.Everywhere.{all_locals, plainly_all}
use Rattle.ss_logic_means.proofs.Standing.{stands_among}
use Rattle.ss_logic_means.proofs.Translating.{translated}
use Rattle.ss_logic_means.proofs.laws.expressions_mean_their_values.Goals as goal

pub returns : goal.returns
returns c = λ m now entry x s locals k good e st at none is. translated all_locals m now entry x s locals k good e (stands_among all_locals m s now entry locals e st) (plainly_all x none) is (λ _. at)
