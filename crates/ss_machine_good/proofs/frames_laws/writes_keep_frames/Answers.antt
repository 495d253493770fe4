use Rattle.ss_machine_good.proofs.Statements.{written_good}
use Rattle.ss_machine_good.proofs.frames_laws.writes_keep_frames.Goals as goal

pub returns : goal.returns
returns c = written_good
