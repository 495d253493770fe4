use Rattle.std.proofs.Common.{[]}
use Rattle.ss_logic_means.proofs.Sorting.{neg_formed}
use Rattle.ss_logic_means.proofs.instances_laws.every_negation_is_well_formed.Goals as goal

pub returns : goal.returns
returns c = λ cs f h. neg_formed cs [] f h
