use Rattle.ss_logic_tables.proofs.Contexts.{contract_formed}
use Rattle.ss_logic_tables.proofs.spans_laws.contracts_are_well_formed.Goals as goal

pub returns : goal.returns
returns c = contract_formed
