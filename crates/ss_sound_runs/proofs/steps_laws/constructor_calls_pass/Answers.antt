use Rattle.ss_sound_runs.proofs.StepsPassed.{constructor_passed}
use Rattle.ss_sound_runs.proofs.steps_laws.constructor_calls_pass.Goals as goal

pub returns : goal.returns
returns c = constructor_passed
