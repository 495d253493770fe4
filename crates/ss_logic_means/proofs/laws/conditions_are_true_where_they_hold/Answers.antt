use Rattle.ss_logic_means.proofs.Contracts.{all_stated_mean}
use Rattle.ss_logic_means.proofs.laws.conditions_are_true_where_they_hold.Goals as goal

pub returns : goal.returns
returns c = all_stated_mean
