use Rattle.ss_linear_rules.proofs.Cancelling.{contradict}
use Rattle.ss_linear_rules.proofs.laws.cancelling_differences_contradict.Goals as goal

pub returns : goal.returns
returns c = contradict
