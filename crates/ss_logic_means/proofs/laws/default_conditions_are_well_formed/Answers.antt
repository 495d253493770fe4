use Rattle.ss_logic_means.proofs.Everywhere.{all_locals, speaks_of_all}
use Rattle.ss_logic_means.proofs.Contexts.{sorted_among}
use Rattle.ss_logic_means.proofs.Stated.{default_formed}
use Rattle.ss_logic_means.proofs.laws.default_conditions_are_well_formed.Goals as goal

pub returns : goal.returns
returns c = λ d s bound st at asked. default_formed all_locals s bound (sorted_among all_locals s bound st) at d (speaks_of_all d) asked
