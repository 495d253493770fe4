use Rattle.ss_machine_good.proofs.Runs.{step_good}
use Rattle.ss_machine_good.proofs.runs_laws.steps_keep_good_stacks.Goals as goal

pub returns : goal.returns
returns c = step_good
