use Rattle.ss_machine_good.proofs.Statements.{element_good}
use Rattle.ss_machine_good.proofs.frames_laws.element_writes_keep_frames.Goals as goal

pub returns : goal.returns
returns c = element_good
