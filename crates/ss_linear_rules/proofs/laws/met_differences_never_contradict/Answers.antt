use Rattle.ss_linear_rules.proofs.Values.{never_false}
use Rattle.ss_linear_rules.proofs.laws.met_differences_never_contradict.Goals as goal

pub returns : goal.returns
returns c = λ cs known v weights f met all gives contradicts. never_false v cs known weights f met all gives contradicts
