use Rattle.ss_core.specs.View.{classes}
use Rattle.ss_store.proofs.Keeping.{keeps_made}
use Rattle.ss_store.proofs.store.Store.new_object.Goals as goal

pub returns-clause-good : goal.returns-clause-good
returns-clause-good c declared =
    keeps_made c.new_object_exactly.result (classes c.args.k.now) c.args.self.now c.new_object_exactly.new.self c.args.c.0 c.new_object_exactly.ensures.added c.new_object_exactly.ensures.kept declared
