use Rattle.ss_machine_good.proofs.Paths.{tested_good}
use Rattle.ss_machine_good.proofs.frames_laws.tests_keep_frames.Goals as goal

pub returns : goal.returns
returns c = tested_good
