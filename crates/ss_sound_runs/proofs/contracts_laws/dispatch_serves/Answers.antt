use Rattle.ss_sound_runs.proofs.Serving.{serves}
use Rattle.ss_sound_runs.proofs.contracts_laws.dispatch_serves.Goals as goal

pub returns : goal.returns
returns c = serves
