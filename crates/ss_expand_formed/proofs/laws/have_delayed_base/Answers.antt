use Rattle.ss_expand_formed.proofs.DelayedBase.{have_delayed_base}
use Rattle.ss_expand_formed.proofs.laws.have_delayed_base.Goals as goal

pub returns : goal.returns
returns c = have_delayed_base
