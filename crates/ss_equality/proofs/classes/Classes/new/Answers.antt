use Rattle.ss_equality.proofs.Steps.{none_kept}
use Rattle.ss_equality.proofs.classes.Classes.new.Goals as goal

pub invariant_of-result : goal.invariant_of-result
invariant_of-result c = none_kept c.new.result.items c.new-2.result.items c.new-4.result.items c.new-5.result.items c.new.ensures.items c.new-2.ensures.items c.new-4.ensures.items c.new-5.ensures.items
