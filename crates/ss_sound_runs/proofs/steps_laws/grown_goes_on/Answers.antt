use Rattle.ss_sound_runs.proofs.Grown.{grown_trans}
use Rattle.ss_sound_runs.proofs.steps_laws.grown_goes_on.Goals as goal

pub returns : goal.returns
returns c = grown_trans
