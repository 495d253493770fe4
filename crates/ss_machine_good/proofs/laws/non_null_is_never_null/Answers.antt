use Rattle.ss_machine_good.proofs.NonNull.{never_null}
use Rattle.ss_machine_good.proofs.laws.non_null_is_never_null.Goals as goal

pub returns : goal.returns
returns c = never_null
