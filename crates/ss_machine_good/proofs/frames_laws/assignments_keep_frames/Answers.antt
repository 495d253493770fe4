use Rattle.ss_machine_good.proofs.Statements.{assigned_good}
use Rattle.ss_machine_good.proofs.frames_laws.assignments_keep_frames.Goals as goal

pub returns : goal.returns
returns c = assigned_good
