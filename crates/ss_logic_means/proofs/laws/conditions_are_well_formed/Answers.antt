use Rattle.ss_logic_means.proofs.Everywhere.{all_locals, speaks_all}
use Rattle.ss_logic_means.proofs.Contexts.{sorted_among}
use Rattle.ss_logic_means.proofs.Stated.{condition_formed}
use Rattle.ss_logic_means.proofs.laws.conditions_are_well_formed.Goals as goal

pub returns : goal.returns
returns c = λ x s bound st at is. condition_formed all_locals s bound (sorted_among all_locals s bound st) at x (speaks_all x) is
