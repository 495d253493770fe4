use Rattle.ss_machine_stores.proofs.Entering.{left_whole, left_is}
use Rattle.ss_machine_stores.proofs.stores.Stores.leave.Goals as goal

pub invariant_of-self : goal.invariant_of-self
invariant_of-self c = left_whole c.self.inside.store.objects c.self.inside.journal c.leave.new.self c.trim.new.self c.self.inside.unfull.items c.self.invariant c.leave.ensures c.trim.ensures

pub returns : goal.returns
returns c = left_is c.self.inside.store.objects c.self.inside.journal c.leave.new.self c.trim.new.self c.args.self.now c.self.invariant.counted c.leave.ensures c.trim.ensures c.self.view_is
