use Rattle.ss_deriv.proofs.Shaped.{Derives-ends}
use Rattle.ss_deriv.proofs.laws.what_derives_ends_each_case.Goals as goal

pub returns : goal.returns
returns c = λ cs premises goal lines d. Derives-ends cs premises goal lines d
