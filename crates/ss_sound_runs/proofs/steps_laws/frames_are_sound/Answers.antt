use Rattle.ss_sound_runs.proofs.Points.{sound_point}
use Rattle.ss_sound_runs.proofs.steps_laws.frames_are_sound.Goals as goal

pub returns : goal.returns
returns c = sound_point
