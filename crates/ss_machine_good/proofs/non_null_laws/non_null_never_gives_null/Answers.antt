use Rattle.ss_machine_good.proofs.States.{run_non_null}
use Rattle.ss_machine_good.proofs.non_null_laws.non_null_never_gives_null.Goals as goal

pub returns : goal.returns
returns c = run_non_null
