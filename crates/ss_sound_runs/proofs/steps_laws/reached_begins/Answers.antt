use Rattle.ss_sound_runs.proofs.Behind.{reached_self}
use Rattle.ss_sound_runs.proofs.steps_laws.reached_begins.Goals as goal

pub returns : goal.returns
returns c = reached_self
