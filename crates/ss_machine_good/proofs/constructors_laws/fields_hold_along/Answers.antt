use Rattle.ss_machine_good.proofs.Fields.{fields_along}
use Rattle.ss_machine_good.proofs.constructors_laws.fields_hold_along.Goals as goal

pub returns : goal.returns
returns c = fields_along
