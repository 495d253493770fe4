use Rattle.ss_logic_means.proofs.Contracts.{code_stated}
use Rattle.ss_logic_means.proofs.laws.conditions_of_code_are_stated.Goals as goal

pub returns : goal.returns
returns c = code_stated
