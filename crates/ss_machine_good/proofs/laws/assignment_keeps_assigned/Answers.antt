use Rattle.ss_machine_good.proofs.Puts.{put_assigned}
use Rattle.ss_machine_good.proofs.laws.assignment_keeps_assigned.Goals as goal

pub returns : goal.returns
returns c = put_assigned
