use Rattle.ss_machine_good.proofs.Statements.{made_ready_good}
use Rattle.ss_machine_good.proofs.frames_laws.ready_keeps_frames.Goals as goal

pub returns : goal.returns
returns c = made_ready_good
