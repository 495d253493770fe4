use Rattle.ss_logic_means.proofs.Closed.{closed_stay}
use Rattle.ss_logic_means.proofs.laws.closed_terms_stay.Goals as goal

pub returns : goal.returns
returns c = closed_stay
