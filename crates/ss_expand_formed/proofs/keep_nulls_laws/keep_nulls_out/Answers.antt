use Rattle.ss_expand_formed.proofs.NullsWhole.{keep_nulls_out as law}
use Rattle.ss_expand_formed.proofs.keep_nulls_laws.keep_nulls_out.Goals as goal

pub returns : goal.returns
returns c = law
