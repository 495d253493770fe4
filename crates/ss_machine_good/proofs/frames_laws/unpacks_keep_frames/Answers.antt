use Rattle.ss_machine_good.proofs.Statements.{unpacked_good}
use Rattle.ss_machine_good.proofs.frames_laws.unpacks_keep_frames.Goals as goal

pub returns : goal.returns
returns c = unpacked_good
