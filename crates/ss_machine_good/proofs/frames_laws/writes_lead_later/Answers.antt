use Rattle.ss_machine_good.proofs.Later.{later_write}
use Rattle.ss_machine_good.proofs.frames_laws.writes_lead_later.Goals as goal

pub returns : goal.returns
returns c = later_write
