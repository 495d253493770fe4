use Rattle.ss_sound_runs.proofs.Tables.{good_table}
use Rattle.ss_sound_runs.proofs.steps_laws.good_stores_have_tables.Goals as goal

pub returns : goal.returns
returns c = good_table
