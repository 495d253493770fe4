use Rattle.ss_logic.proofs.Ruling.{instance_of_true}
use Rattle.ss_logic.proofs.rules_laws.every_instance_is_true.Goals as goal

pub returns : goal.returns
returns c = λ cs chain none m. instance_of_true cs m chain none
