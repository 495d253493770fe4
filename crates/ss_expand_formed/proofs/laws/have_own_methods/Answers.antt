use Rattle.ss_expand_formed.proofs.TableOwn.{have_own_methods}
use Rattle.ss_expand_formed.proofs.laws.have_own_methods.Goals as goal

pub returns : goal.returns
returns c = have_own_methods
