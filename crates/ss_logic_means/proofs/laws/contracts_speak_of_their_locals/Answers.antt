use Rattle.ss_logic_means.proofs.Contracts.{contract_speaks}
use Rattle.ss_logic_means.proofs.laws.contracts_speak_of_their_locals.Goals as goal

pub returns : goal.returns
returns c = λ cs b. contract_speaks cs b
