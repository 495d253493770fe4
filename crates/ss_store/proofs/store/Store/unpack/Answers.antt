use Rattle.ss_core.specs.View.{classes}
use Rattle.ss_store_rules.proofs.Keeps.{Keeps-unpack}
use Rattle.ss_store.proofs.store.Store.unpack.Goals as goal

pub returns-clause-good : goal.returns-clause-good
returns-clause-good c declared =
    Keeps-unpack (classes c.args.c.now.classes) c.args.self.now.objects c.unpack_exactly.new.self.objects c.unpack_exactly.result c.args.o c.args.t.0 c.unpack_exactly.ensures.change declared
