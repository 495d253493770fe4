use Rattle.ss_logic_means.proofs.Everywhere.{all_locals, plainly_all}
use Rattle.ss_logic_means.proofs.Contexts.{sorted_among}
use Rattle.ss_logic_means.proofs.Expressed.{expressed}
use Rattle.ss_logic_means.proofs.laws.expressions_are_well_formed.Goals as goal

pub returns : goal.returns
returns c = λ x s bound st at none is. expressed all_locals x s bound (sorted_among all_locals s bound st) (plainly_all x none) is (λ _. at)
