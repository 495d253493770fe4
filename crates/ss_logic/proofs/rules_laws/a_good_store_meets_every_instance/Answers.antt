use Rattle.ss_logic.proofs.Goods.{good_instance_true}
use Rattle.ss_logic.proofs.rules_laws.a_good_store_meets_every_instance.Goals as goal

pub returns : goal.returns
returns c = good_instance_true
