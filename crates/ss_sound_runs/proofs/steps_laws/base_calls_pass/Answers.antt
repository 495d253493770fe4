use Rattle.ss_sound_runs.proofs.StepsPassed.{base_passed}
use Rattle.ss_sound_runs.proofs.steps_laws.base_calls_pass.Goals as goal

pub returns : goal.returns
returns c = base_passed
