use Rattle.ss_sound_runs.proofs.Answers.{answered}
use Rattle.ss_sound_runs.proofs.steps_laws.returns_answer.Goals as goal

pub returns : goal.returns
returns c = answered
