use Rattle.ss_sound_runs.proofs.Grown.{grown_self}
use Rattle.ss_sound_runs.proofs.steps_laws.grown_begins.Goals as goal

pub returns : goal.returns
returns c = grown_self
