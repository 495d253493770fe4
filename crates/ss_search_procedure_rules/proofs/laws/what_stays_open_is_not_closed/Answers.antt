use Rattle.ss_search_procedure_rules.proofs.Open.{open_isn't_closed}
use Rattle.ss_search_procedure_rules.proofs.laws.what_stays_open_is_not_closed.Goals as goal

pub returns : goal.returns
returns c = λ cs depth reached fs s i k. open_isn't_closed cs depth reached s fs i k
