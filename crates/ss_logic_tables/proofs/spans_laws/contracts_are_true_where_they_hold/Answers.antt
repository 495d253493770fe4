use Rattle.ss_logic_tables.proofs.Contexts.{contract_means}
use Rattle.ss_logic_tables.proofs.spans_laws.contracts_are_true_where_they_hold.Goals as goal

pub returns : goal.returns
returns c = contract_means
