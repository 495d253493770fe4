use Rattle.ss_logic_means.proofs.Contracts.{stated_means}
use Rattle.ss_logic_means.proofs.laws.conditions_are_true_where_they_hold_where_read.Goals as goal

pub returns : goal.returns
returns c = stated_means
