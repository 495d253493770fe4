use Rattle.ss_sound_runs.proofs.Statements.{statement_after}
use Rattle.ss_sound_runs.proofs.steps_laws.statements_lead_after.Goals as goal

pub returns : goal.returns
returns c = statement_after
