use Rattle.ss_expand_formed.proofs.AssignedLaw.{read_what_is_assigned as law}
use Rattle.ss_expand_formed.proofs.assigned_laws.read_what_is_assigned.Goals as goal

pub returns : goal.returns
returns c = law
