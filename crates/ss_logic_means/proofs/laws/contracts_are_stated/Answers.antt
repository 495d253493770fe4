use Rattle.ss_logic_means.proofs.Contracts.{contract_stated}
use Rattle.ss_logic_means.proofs.laws.contracts_are_stated.Goals as goal

pub returns : goal.returns
returns c = contract_stated
