use Rattle.ss_sound_runs.proofs.Later.{step_later}
use Rattle.ss_sound_runs.proofs.steps_laws.steps_lead_later.Goals as goal

pub returns : goal.returns
returns c = step_later
