use Rattle.ss_expand_formed.proofs.Requires.{require_nothing_of_this as law}
use Rattle.ss_expand_formed.proofs.members_laws.require_nothing_of_this.Goals as goal

pub returns : goal.returns
returns c = law
