use Rattle.ss_expand_formed.proofs.ContractsEntries.{have_exits as law}
use Rattle.ss_expand_formed.proofs.contracts_laws.have_exits.Goals as goal

pub returns : goal.returns
returns c = law
