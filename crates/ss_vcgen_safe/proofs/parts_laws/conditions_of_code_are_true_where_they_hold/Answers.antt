use Rattle.ss_vcgen_safe.proofs.Read.{condition_means}
use Rattle.ss_vcgen_safe.proofs.parts_laws.conditions_of_code_are_true_where_they_hold.Goals as goal

pub returns : goal.returns
returns c = condition_means
