use Rattle.ss_expand_formed.proofs.ContractsEntries.{have_entries as law}
use Rattle.ss_expand_formed.proofs.contracts_laws.have_entries.Goals as goal

pub returns : goal.returns
returns c = law
