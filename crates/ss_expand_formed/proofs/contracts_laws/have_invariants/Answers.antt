use Rattle.ss_expand_formed.proofs.Invariants.{have_invariants as law}
use Rattle.ss_expand_formed.proofs.contracts_laws.have_invariants.Goals as goal

pub returns : goal.returns
returns c = law
