use Rattle.ss_sound_runs.proofs.StepsPassed.{static_passed}
use Rattle.ss_sound_runs.proofs.steps_laws.static_calls_pass.Goals as goal

pub returns : goal.returns
returns c = static_passed
