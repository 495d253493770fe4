use Rattle.ss_expand_formed.proofs.Keeping.{keep_this_in as law}
use Rattle.ss_expand_formed.proofs.construction_laws.keep_this_in.Goals as goal

pub returns : goal.returns
returns c = law
