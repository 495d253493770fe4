use Rattle.ss_expand_formed.proofs.NullsDelayed.{constructor_keeps as law}
use Rattle.ss_expand_formed.proofs.nulls_laws.constructors_keep_nulls_out.Goals as goal

pub returns : goal.returns
returns c = law
