use Rattle.ss_expand_formed.proofs.Named.{have_named as law}
use Rattle.ss_expand_formed.proofs.contracts_laws.have_named.Goals as goal

pub returns : goal.returns
returns c = law
