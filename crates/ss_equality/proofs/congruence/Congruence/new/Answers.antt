use Rattle.ss_equality.proofs.Keeping.{new_kept}
use Rattle.ss_equality.proofs.congruence.Congruence.new.Goals as goal

pub invariant_of-result : goal.invariant_of-result
invariant_of-result c = new_kept c.new.result c.new-3.result.items c.new-2.result c.new.ensures c.new-3.ensures.items c.new-2.ensures
