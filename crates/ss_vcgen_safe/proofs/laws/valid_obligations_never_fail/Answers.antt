use Rattle.ss_sound_runs.proofs.Runs.{never_fails}
use Rattle.ss_vcgen_safe.proofs.Safe.{all_run}
use Rattle.ss_vcgen_safe.proofs.laws.valid_obligations_never_fail.Goals as goal

pub returns : goal.returns
returns c = λ program formed valid input is allowed n. never_fails program formed (all_run program formed valid) input is allowed n
