use Rattle.ss_report_values.proofs.Only.{told_value}
use Rattle.ss_report_values.proofs.laws.values_are_those_of_the_model.Goals as goal

pub returns : goal.returns
returns c = told_value
