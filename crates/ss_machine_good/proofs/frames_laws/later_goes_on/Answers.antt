use Rattle.ss_machine_good.proofs.Later.{later_trans}
use Rattle.ss_machine_good.proofs.frames_laws.later_goes_on.Goals as goal

pub returns : goal.returns
returns c = later_trans
