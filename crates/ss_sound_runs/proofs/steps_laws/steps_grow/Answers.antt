use Rattle.ss_sound_runs.proofs.Grown.{grown_step}
use Rattle.ss_sound_runs.proofs.steps_laws.steps_grow.Goals as goal

pub returns : goal.returns
returns c = grown_step
