use Rattle.ss_sound_runs.proofs.Served.{passed_as_seen}
use Rattle.ss_sound_runs.proofs.contracts_laws.seen_arguments_are_passed.Goals as goal

pub returns : goal.returns
returns c = passed_as_seen
