use Rattle.ss_machine_good.proofs.Statements.{packed_good}
use Rattle.ss_machine_good.proofs.frames_laws.packs_keep_frames.Goals as goal

pub returns : goal.returns
returns c = packed_good
