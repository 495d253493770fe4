use Rattle.ss_sound_runs.proofs.Served.{returned_as_seen}
use Rattle.ss_sound_runs.proofs.contracts_laws.dispatched_returns_are_seen.Goals as goal

pub returns : goal.returns
returns c = returned_as_seen
