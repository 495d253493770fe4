use Rattle.ss_machine_good.proofs.Frames.{tested_frame}
use Rattle.ss_machine_good.proofs.laws.test_keeps_frame.Goals as goal

pub returns : goal.returns
returns c = tested_frame
