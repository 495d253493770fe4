use Rattle.ss_sound_runs.proofs.Tables.{fits_before}
use Rattle.ss_sound_runs.proofs.steps_laws.tables_fit_before.Goals as goal

pub returns : goal.returns
returns c = fits_before
