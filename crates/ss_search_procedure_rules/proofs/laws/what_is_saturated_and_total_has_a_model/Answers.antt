use Rattle.ss_search_procedure_rules.proofs.Models.{is_model}
use Rattle.ss_search_procedure_rules.proofs.laws.what_is_saturated_and_total_has_a_model.Goals as goal

pub returns : goal.returns
returns c = λ cs reached fs saturated total i facts. is_model cs reached saturated total fs i facts
