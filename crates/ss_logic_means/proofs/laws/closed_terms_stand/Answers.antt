use Rattle.ss_logic_means.proofs.Closed.{closed_stands}
use Rattle.ss_logic_means.proofs.laws.closed_terms_stand.Goals as goal

pub returns : goal.returns
returns c = closed_stands
