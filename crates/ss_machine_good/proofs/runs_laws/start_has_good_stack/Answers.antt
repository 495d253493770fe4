use Rattle.ss_machine_good.proofs.Runs.{start_stack}
use Rattle.ss_machine_good.proofs.runs_laws.start_has_good_stack.Goals as goal

pub returns : goal.returns
returns c = start_stack
