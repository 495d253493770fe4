use Rattle.ss_machine_good.proofs.Frames.{assigned_frame}
use Rattle.ss_machine_good.proofs.laws.assignment_keeps_frame.Goals as goal

pub returns : goal.returns
returns c = assigned_frame
