use Rattle.ss_machine_good.proofs.Statements.{array_good}
use Rattle.ss_machine_good.proofs.frames_laws.arrays_keep_frames.Goals as goal

pub returns : goal.returns
returns c = array_good
