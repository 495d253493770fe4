use Rattle.ss_sound_runs.proofs.Exits.{exits_read}
use Rattle.ss_sound_runs.proofs.contracts_laws.exits_read_arguments.Goals as goal

pub returns : goal.returns
returns c = exits_read
