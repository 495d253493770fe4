use Rattle.ss_core.specs.View.{classes}
use Rattle.ss_store_rules.proofs.Keeps.{Keeps-pack}
use Rattle.ss_store.proofs.store.Store.pack.Goals as goal

pub returns-clause-good : goal.returns-clause-good
returns-clause-good c declared has =
    Keeps-pack (classes c.args.c.now.classes) c.args.self.now.objects c.pack_exactly.new.self.objects c.pack_exactly.result c.args.o c.args.t.0 c.pack_exactly.ensures.change declared has
