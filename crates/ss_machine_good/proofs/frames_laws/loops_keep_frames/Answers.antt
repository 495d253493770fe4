use Rattle.ss_machine_good.proofs.Paths.{looping_good}
use Rattle.ss_machine_good.proofs.frames_laws.loops_keep_frames.Goals as goal

pub returns : goal.returns
returns c = looping_good
