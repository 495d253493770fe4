use Rattle.ss_sound_runs.proofs.Behind.{new_after}
use Rattle.ss_sound_runs.proofs.steps_laws.news_lead_after.Goals as goal

pub returns : goal.returns
returns c = new_after
