use Rattle.ss_sound_runs.proofs.Behind.{call_after}
use Rattle.ss_sound_runs.proofs.steps_laws.calls_lead_after.Goals as goal

pub returns : goal.returns
returns c = call_after
