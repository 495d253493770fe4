use Rattle.ss_machine_good.proofs.Frames.{forked_frame}
use Rattle.ss_machine_good.proofs.laws.if_keeps_frame.Goals as goal

pub returns : goal.returns
returns c = forked_frame
