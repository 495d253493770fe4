use Rattle.ss_expand_formed.proofs.AdmissibleInvariants.{all_admissible}
use Rattle.ss_expand_formed.proofs.admissible_laws.are_admissible.Goals as goal

pub returns : goal.returns
returns c = all_admissible
