use Rattle.ss_sound_runs.proofs.Passed.{passed_at_entry}
use Rattle.ss_sound_runs.proofs.contracts_laws.entries_have_arguments.Goals as goal

pub returns : goal.returns
returns c = passed_at_entry
