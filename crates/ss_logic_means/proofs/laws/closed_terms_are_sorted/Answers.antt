use Rattle.ss_logic_means.proofs.Stated.{closed_sorted}
use Rattle.ss_logic_means.proofs.laws.closed_terms_are_sorted.Goals as goal

pub returns : goal.returns
returns c = closed_sorted
