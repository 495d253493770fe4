use Rattle.ss_expand_formed.proofs.BeginsInOrder.{start_in_order as law}
use Rattle.ss_expand_formed.proofs.construction_laws.start_in_order.Goals as goal

pub returns : goal.returns
returns c = law
