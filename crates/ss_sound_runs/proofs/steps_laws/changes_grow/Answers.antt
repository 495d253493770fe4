use Rattle.ss_sound_runs.proofs.Grown.{grown_change}
use Rattle.ss_sound_runs.proofs.steps_laws.changes_grow.Goals as goal

pub returns : goal.returns
returns c = grown_change
