use Rattle.ss_store_rules.specs.NonNull.{known_flow}
use Rattle.ss_machine_good.specs.Known.{IsTrueOf}
use Rattle.ss_machine_good.proofs.Flows.{goes_along}
use Rattle.ss_machine_good.proofs.Meets.{known_sound}
use Rattle.ss_machine_good.proofs.laws.known_goes_along.Goals as goal

pub returns : goal.returns
returns c = λ p b k constructs. goes_along (known_flow p b) k (IsTrueOf constructs) (known_sound p b k constructs)
