use Rattle.ss_machine_good.proofs.Runs.{run_good}
use Rattle.ss_machine_good.proofs.runs_laws.unfailed_states_are_good.Goals as goal

pub returns : goal.returns
returns c = run_good
