use Rattle.ss_logic_means.proofs.Everywhere.{all_locals, speaks_of_all}
use Rattle.ss_logic_means.proofs.Standing.{stands_among}
use Rattle.ss_logic_means.proofs.Defaults.{default_means}
use Rattle.ss_logic_means.proofs.laws.default_conditions_are_true_where_they_hold.Goals as goal

pub returns : goal.returns
returns c = λ m now entry d s locals k good e st at asked stay. default_means all_locals m now entry s locals k good e (stands_among all_locals m s now entry locals e st) at d (speaks_of_all d) asked stay
