use Rattle.ss_expand_formed.proofs.Marks.{have_params as law}
use Rattle.ss_expand_formed.proofs.members_laws.have_params.Goals as goal

pub returns : goal.returns
returns c = law
