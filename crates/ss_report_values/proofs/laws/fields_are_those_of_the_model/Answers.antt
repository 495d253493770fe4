use Rattle.ss_report_values.proofs.Told.{told_field}
use Rattle.ss_report_values.proofs.laws.fields_are_those_of_the_model.Goals as goal

pub returns : goal.returns
returns c = told_field
