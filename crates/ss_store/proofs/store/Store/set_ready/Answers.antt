use Rattle.ss_core.specs.View.{classes}
use Rattle.ss_store_rules.proofs.Keeps.{Keeps-ready}
use Rattle.ss_store.proofs.store.Store.set_ready.Goals as goal

pub returns-clause-good : goal.returns-clause-good
returns-clause-good c whole =
    Keeps-ready (classes c.args.c.now.classes) c.args.self.now.objects c.set_ready_exactly.new.self.objects c.args.o c.set_ready_exactly.ensures.change whole
