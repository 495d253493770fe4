use Rattle.ss_logic.proofs.Summed.{is_linear}
use Rattle.ss_logic.proofs.sums_laws.a_linear_sum_is_its_term.Goals as goal

pub returns : goal.returns
returns c = is_linear
