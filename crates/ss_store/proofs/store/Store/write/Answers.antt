use Rattle.ss_core.specs.View.{classes}
use Rattle.ss_store_rules.proofs.Keeps.{Keeps-write}
use Rattle.ss_store.proofs.store.Store.write.Goals as goal

pub returns-clause-good : goal.returns-clause-good
returns-clause-good c has may =
    Keeps-write (classes c.args.c.now.classes) c.args.self.now.objects c.write_exactly.new.self.objects c.write_exactly.result c.args.o c.args.f.0 c.args.v c.write_exactly.ensures.change has may
