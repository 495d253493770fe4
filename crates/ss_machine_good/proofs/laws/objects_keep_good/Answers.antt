use Rattle.ss_machine_good.proofs.Steps.{new_object_good}
use Rattle.ss_machine_good.proofs.laws.objects_keep_good.Goals as goal

pub returns : goal.returns
returns c = new_object_good
