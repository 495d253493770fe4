use Rattle.ss_search_procedure_rules.proofs.Fitting.{fitting}
use Rattle.ss_search_procedure_rules.proofs.laws.what_has_fitting_classes_fits.Goals as goal

pub returns : goal.returns
returns c = fitting
