use Rattle.ss_machine_stores.proofs.Entering.{entered_is}
use Rattle.ss_machine_stores.proofs.stores.Stores.enter.Goals as goal

pub returns-clause-entered : goal.returns-clause-entered
returns-clause-entered c = entered_is c.enter.result c.self.inside.store.objects c.count.result c.self.inside.journal c.enter.new.self c.args.self.now c.count.ensures c.enter.ensures.entered c.self.view_is
