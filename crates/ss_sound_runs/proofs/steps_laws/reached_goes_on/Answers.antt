use Rattle.ss_sound_runs.proofs.Behind.{reached_trans}
use Rattle.ss_sound_runs.proofs.steps_laws.reached_goes_on.Goals as goal

pub returns : goal.returns
returns c = reached_trans
