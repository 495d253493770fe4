use Rattle.ss_expand_formed.proofs.NullsWrappers.{wrappers_keep as law}
use Rattle.ss_expand_formed.proofs.nulls_laws.wrappers_keep_nulls_out.Goals as goal

pub returns : goal.returns
returns c = law
