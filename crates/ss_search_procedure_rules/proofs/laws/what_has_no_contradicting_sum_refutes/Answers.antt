use Rattle.ss_search_procedure_rules.proofs.Facts.{refuting}
use Rattle.ss_search_procedure_rules.proofs.laws.what_has_no_contradicting_sum_refutes.Goals as goal

pub returns : goal.returns
returns c = refuting
