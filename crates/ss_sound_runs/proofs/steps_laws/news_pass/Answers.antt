use Rattle.ss_sound_runs.proofs.StepsPassed.{new_passed}
use Rattle.ss_sound_runs.proofs.steps_laws.news_pass.Goals as goal

pub returns : goal.returns
returns c = new_passed
