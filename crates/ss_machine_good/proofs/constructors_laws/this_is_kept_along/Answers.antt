use Rattle.ss_machine_good.proofs.This.{ready_along}
use Rattle.ss_machine_good.proofs.constructors_laws.this_is_kept_along.Goals as goal

pub returns : goal.returns
returns c = ready_along
