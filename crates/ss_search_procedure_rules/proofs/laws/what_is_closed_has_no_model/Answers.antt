use Rattle.ss_search_procedure_rules.proofs.Unmet.{closed_has_no_model}
use Rattle.ss_search_procedure_rules.proofs.laws.what_is_closed_has_no_model.Goals as goal

pub returns : goal.returns
returns c = closed_has_no_model
