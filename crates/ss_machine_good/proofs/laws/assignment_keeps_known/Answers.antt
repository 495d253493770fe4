use Rattle.ss_machine_good.proofs.Puts.{put_true}
use Rattle.ss_machine_good.proofs.laws.assignment_keeps_known.Goals as goal

pub returns : goal.returns
returns c = put_true
