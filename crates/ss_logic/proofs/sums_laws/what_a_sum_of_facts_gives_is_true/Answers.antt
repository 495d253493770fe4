use Rattle.ss_logic.proofs.Summed.{sum_true}
use Rattle.ss_logic.proofs.sums_laws.what_a_sum_of_facts_gives_is_true.Goals as goal

pub returns : goal.returns
returns c = sum_true
