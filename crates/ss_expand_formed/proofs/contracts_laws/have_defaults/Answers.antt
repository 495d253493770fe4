use Rattle.ss_expand_formed.proofs.Defaults.{have_defaults as law}
use Rattle.ss_expand_formed.proofs.contracts_laws.have_defaults.Goals as goal

pub returns : goal.returns
returns c = law
