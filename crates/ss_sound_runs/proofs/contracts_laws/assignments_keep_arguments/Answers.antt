use Rattle.ss_sound_runs.proofs.Passed.{passed_on}
use Rattle.ss_sound_runs.proofs.contracts_laws.assignments_keep_arguments.Goals as goal

pub returns : goal.returns
returns c = passed_on
