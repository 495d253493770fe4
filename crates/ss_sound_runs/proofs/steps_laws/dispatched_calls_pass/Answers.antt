use Rattle.ss_sound_runs.proofs.StepsPassed.{dispatched_passed}
use Rattle.ss_sound_runs.proofs.steps_laws.dispatched_calls_pass.Goals as goal

pub returns : goal.returns
returns c = dispatched_passed
