use Rattle.ss_machine_good.proofs.Steps.{value_fits}
use Rattle.ss_machine_good.proofs.laws.wanted_values_fit.Goals as goal

pub returns : goal.returns
returns c = value_fits
