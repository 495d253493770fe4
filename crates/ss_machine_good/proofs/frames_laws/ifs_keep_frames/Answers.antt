use Rattle.ss_machine_good.proofs.Paths.{forked_good}
use Rattle.ss_machine_good.proofs.frames_laws.ifs_keep_frames.Goals as goal

pub returns : goal.returns
returns c = forked_good
