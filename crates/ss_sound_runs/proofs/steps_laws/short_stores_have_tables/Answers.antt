use Rattle.ss_sound_runs.proofs.Tables.{short_table}
use Rattle.ss_sound_runs.proofs.steps_laws.short_stores_have_tables.Goals as goal

pub returns : goal.returns
returns c = short_table
