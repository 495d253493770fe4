use Rattle.ss_machine_good.proofs.Frames.{looping_frame}
use Rattle.ss_machine_good.proofs.laws.loop_keeps_frame.Goals as goal

pub returns : goal.returns
returns c = looping_frame
