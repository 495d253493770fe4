use Rattle.ss_expand_formed.proofs.Marks.{have_fields as law}
use Rattle.ss_expand_formed.proofs.members_laws.have_fields.Goals as goal

pub returns : goal.returns
returns c = law
