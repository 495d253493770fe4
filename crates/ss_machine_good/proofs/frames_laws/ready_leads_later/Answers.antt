use Rattle.ss_machine_good.proofs.Later.{later_ready}
use Rattle.ss_machine_good.proofs.frames_laws.ready_leads_later.Goals as goal

pub returns : goal.returns
returns c = later_ready
