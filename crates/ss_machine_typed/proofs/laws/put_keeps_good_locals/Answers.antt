use Rattle.ss_machine_typed.proofs.First.{put_locals}
use Rattle.ss_machine_typed.proofs.laws.put_keeps_good_locals.Goals as goal

pub returns : goal.returns
returns c = put_locals
