use Rattle.ss_sound_runs.proofs.Runs.{never_fails}
use Rattle.ss_sound_runs.proofs.laws.safe_bodies_never_fail.Goals as goal

pub returns : goal.returns
returns c = never_fails
